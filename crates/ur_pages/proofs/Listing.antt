-- Pages on their list.
use Rattle.std.proofs.Common.{cond, nat_lt, Option, option_map, position, ◌≡◌, ℕ, zero, suc, ◌<◌, ◌≤◌, ◌-◌, ◌+◌, Bool, true, false, not, List, []}
use Rattle.std.proofs.Common.{◌∷◌, ◌++◌, length, take, drop, map, filter, remove, length-append, Some, None, refl, sym, ap, ap₂, ◌∙◌, arith}
use Rattle.std.proofs.Common.{if◌then◌else◌}
use Rattle.std.specs.Prelude.{slice_get}
use Rattle.std.proofs.lemmas.List.{drop_at, take_at, length-map}
use Rattle.std.proofs.lemmas.Option.{slice_get-map}
use Rattle.std.specs.List.{prefix_len}
use Rattle.ur_pages.specs.declared.page.Page.{Page}
use Rattle.ur_pages.specs.Pages.{Remembered, read_page, IsToFront}

split_take : {X : Type 0} (xs : List X) (i : ℕ) (x : X) → slice_get xs i ≡ Some x → take (suc i) xs ≡ take i xs ++ x ∷ []
split_take [] i x e = cc
split_take (y ∷ ys) zero x e = ap (λ z. z ∷ []) (some_is y x e)
  where
    some_is : {X : Type 0} (y x : X) → Some y ≡ Some x → y ≡ x
    some_is y x e = cc
split_take (y ∷ ys) (suc i) x e = ap (λ l. y ∷ l) (split_take ys i x e)

turned : {X : Type 0} (as' : List X) (x : X) (n : ℕ) → n ≡ length as' → drop n (as' ++ x ∷ []) ++ take n (as' ++ x ∷ []) ≡ x ∷ as'
turned as' x n e = ap₂ (λ u w. u ++ w) (drop_at as' (x ∷ []) n (sym e)) (take_at as' (x ∷ []) n (sym e))

-- after a turn by one of the elements up to a place
pub front_turned : {X : Type 0} (xs ys : List X) (place : ℕ) (x : X) → slice_get xs place ≡ Some x
    → ys ≡ drop (length (take (place + 1) xs) - 1) (take (place + 1) xs) ++ take (length (take (place + 1) xs) - 1) (take (place + 1) xs)
    → ys ++ drop (place + 1) xs ≡ x ∷ remove xs place
front_turned xs ys place x here e =
    let next : place + 1 ≡ suc place = omega arith in
    let part : take (place + 1) xs ≡ take place xs ++ x ∷ [] = ap (λ k. take k xs) next ∙ split_take xs place x here in
    let count : length (take place xs ++ x ∷ []) ≡ length (take place xs) + 1 = length-append (take place xs) (x ∷ []) in
    ap₂ (λ u w. u ++ w)
    (e ∙ ap (λ l. drop (length l - 1) l ++ take (length l - 1) l) part
    ∙ turned (take place xs) x (length (take place xs ++ x ∷ []) - 1)
    (let back : length (take place xs ++ x ∷ []) - 1 ≡ length (take place xs) = omega (arith, count) in back))
    (ap (λ k. drop k xs) next)

filter_step : (b : Bool) (e : Page) (rest : List Page) (others : List Remembered) → map read_page rest ≡ others
    → map read_page (if b then e ∷ rest else rest) ≡ (if b then read_page e ∷ others else others)
filter_step true e rest others h = ap (λ l. read_page e ∷ l) h
filter_step false e rest others h = h

pub filter_pages : (test : Remembered → Bool) (es : List Page) → map read_page (filter (λ e. test (read_page e)) es) ≡ filter test (map read_page es)
filter_pages test [] = refl
filter_pages test (e ∷ es) = filter_step (test (read_page e)) e (filter (λ e. test (read_page e)) es) (filter test (map read_page es)) (filter_pages test es)

last_there : {X : Type 0} (ws : List X) (e : X) → slice_get (ws ++ e ∷ []) (length ws) ≡ Some e
last_there [] e = refl
last_there (w ∷ ws) e = last_there ws e

last_out : {X : Type 0} (ws : List X) (e : X) → remove (ws ++ e ∷ []) (length ws) ≡ ws
last_out [] e = refl
last_out (w ∷ ws) e = ap (λ l. w ∷ l) (last_out ws e)

-- the last one is at the front
pub last_turned : {X : Type 0} (xs ys ws : List X) (e : X) (last : ℕ) → xs ≡ ws ++ e ∷ [] → last ≡ length xs - 1 → IsToFront xs last ys → ys ≡ e ∷ ws
last_turned xs ys ws e last is at front =
    let count : length (ws ++ e ∷ []) ≡ length ws + 1 = length-append ws (e ∷ []) in
    let place : last ≡ length ws = at ∙ ap (λ l. length l - 1) is ∙ (let back : length (ws ++ e ∷ []) - 1 ≡ length ws = omega (arith, count) in back) in
    front e (ap (λ l. slice_get l last) is ∙ ap (slice_get (ws ++ e ∷ [])) place ∙ last_there ws e) ∙ ap (λ l. e ∷ l)
    (ap (λ l. remove l last) is ∙ ap (remove (ws ++ e ∷ [])) place ∙ last_out ws e)

-- ---- as contracts see them

prefix_map : {X Y : Type 0} (f : X → Y) (p : Y → Bool) (xs : List X) → prefix_len p (map f xs) ≡ prefix_len (λ x. p (f x)) xs
prefix_map f p [] = refl
prefix_map f p (x ∷ xs) = ap (λ n. cond (p (f x)) (1 + n) 0) (prefix_map f p xs)

pub position_map : {X Y : Type 0} (f : X → Y) (p : Y → Bool) (xs : List X) → position p (map f xs) ≡ position (λ x. p (f x)) xs
position_map f p xs = ap₂ (λ (i n : ℕ). cond (nat_lt i n) (Some i) None) (prefix_map f (λ y. not (p y)) xs) (length-map xs f)

pub remove_map : {X Y : Type 0} (f : X → Y) (xs : List X) (i : ℕ) → map f (remove xs i) ≡ remove (map f xs) i
remove_map f [] zero = refl
remove_map f [] (suc i) = refl
remove_map f (x ∷ xs) zero = refl
remove_map f (x ∷ xs) (suc i) = ap (λ l. f x ∷ l) (remove_map f xs i)

pub front_mapped : {X Y : Type 0} (f : X → Y) (xs ys : List X) (place : ℕ) → IsToFront xs place ys → IsToFront (map f xs) place (map f ys)
front_mapped {X = X} f xs ys place front y here = go (slice_get xs place) refl (sym (slice_get-map f xs place) ∙ here)
  where
    some_is : {X : Type 0} (a b : X) → Some a ≡ Some b → a ≡ b
    some_is a b e = cc

    go : (o : Option X) → slice_get xs place ≡ o → option_map f o ≡ Some y → map f ys ≡ y ∷ remove (map f xs) place
    go None e k = cc
    go (Some x) e k = ap (map f) (front x e) ∙ ap₂ (λ z zs. z ∷ zs) (some_is (f x) y k) (remove_map f xs place)
