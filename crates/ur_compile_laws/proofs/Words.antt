-- The names of modules and of functions are text and not empty, and the names of modules stay apart.
use Rattle.std.proofs.Common.{arith, inl, inr, ◌≡◌, refl, sym, ap, ap₂, subst, Bool, true, false, not, ◌&&◌, ◌||◌, List, [], ◌∷◌, ℕ, ◌-◌, ◌<◌, ◌≤◌, length, map, bytes_eq, codes, IsUtf8, IsAscii, ◌==◌}
use Rattle.std.specs.List.{list_all, list_any}
use Rattle.std.proofs.lemmas.Bool.Decides.{nat_tests}
use Rattle.std.proofs.lemmas.Slice.Eq.{bytes_eq-Decides}
use Rattle.std.proofs.lemmas.Str.{IsUtf8-from_ascii}
use Rattle.std.proofs.lemmas.Str.Ascii.{IsAscii-nil, IsAscii-cons}
use Rattle.ur_disjoint.proofs.Members.{In, map-in}
use Rattle.ur_lex.specs.Spelling.{is_in_name, is_lower, is_among, keywords}
use Rattle.ur_lex.specs.Spelling as lex
use Rattle.ur_load.specs.Words.{is_name_byte, is_small, is_module_name, is_one_of, are_distinct}
use Rattle.ur_load.specs.Names.{module_name}
use Rattle.ur_compile_laws.proofs.Places.{Distinct, distinct_map}

-- text that is not empty
abbrev pub IsName : List ℕ → Type 0
IsName x = (0 < length x) × IsUtf8 x

and_true : (a b : Bool) → (a && b) ≡ true → (a ≡ true) × (b ≡ true)
and_true true b h = (refl, h)
and_true false b h = absurd (cc)

pub same_bytes : (x : List ℕ) → bytes_eq x x ≡ true
same_bytes x = (bytes_eq-Decides x x).1 refl

-- ---- functions

lower_byte : (b : ℕ) → is_in_name b ≡ true → b < 128
lower_byte b h = grind (arith, nat_tests)

lower_bytes : (w : List ℕ) → list_all is_in_name w ≡ true → IsAscii w
lower_bytes [] h = IsAscii-nil
lower_bytes (b ∷ w) h = let both = and_true (is_in_name b) (list_all is_in_name w) h in IsAscii-cons b w (lower_byte b both.0) (lower_bytes w both.1)

first_byte : (b : ℕ) → (lex.is_small b || b == 95) ≡ true → b < 128
first_byte b h = grind (arith, nat_tests)

pub lower_name : (w : List ℕ) → is_lower w ≡ true → IsName w
lower_name [] h = absurd (cc)
lower_name (b ∷ w) h =
    let front = and_true ((lex.is_small b || b == 95) && list_all is_in_name w) (not (is_among (codes "_" ∷ keywords) (b ∷ w))) h in
    let both = and_true (lex.is_small b || b == 95) (list_all is_in_name w) front.0 in
    (omega arith, IsUtf8-from_ascii (b ∷ w) (IsAscii-cons b w (first_byte b both.0) (lower_bytes w both.1)))

-- ---- modules

name_byte : (b : ℕ) → is_name_byte b ≡ true → b < 128
name_byte b h = grind (arith, nat_tests)

name_bytes : (w : List ℕ) → list_all is_name_byte w ≡ true → IsAscii w
name_bytes [] h = IsAscii-nil
name_bytes (b ∷ w) h = let both = and_true (is_name_byte b) (list_all is_name_byte w) h in IsAscii-cons b w (name_byte b both.0) (name_bytes w both.1)

small_is : (b : ℕ) → is_small b ≡ true → (97 ≤ b) × (b ≤ 122)
small_is b h = (grind (arith, nat_tests), grind (arith, nat_tests))

capital_byte : (b : ℕ) → b ≤ 122 → b - 32 < 128
capital_byte b h = omega (arith, h)

pub module_is_name : (x : List ℕ) → is_module_name x ≡ true → IsName (module_name x)
module_is_name [] h = absurd (cc)
module_is_name (b ∷ w) h =
    let both = and_true (is_small b) (list_all is_name_byte (b ∷ w)) h in
    let rest = and_true (is_name_byte b) (list_all is_name_byte w) both.1 in
    (omega arith, IsUtf8-from_ascii ((b - 32) ∷ w) (IsAscii-cons (b - 32) w (capital_byte b (small_is b both.0).1) (name_bytes w rest.1)))

first_of : {b c : ℕ} {v w : List ℕ} → b ∷ v ≡ c ∷ w → b ≡ c
first_of e = cc

rest_of : {b c : ℕ} {v w : List ℕ} → b ∷ v ≡ c ∷ w → v ≡ w
rest_of e = cc

same_small : (b c : ℕ) → 97 ≤ b → 97 ≤ c → b - 32 ≡ c - 32 → b ≡ c
same_small b c h g e = omega (arith, h, g, e)

pub module_told : (x y : List ℕ) → is_module_name x ≡ true → is_module_name y ≡ true → module_name x ≡ module_name y → x ≡ y
module_told [] y h g e = absurd (cc)
module_told (b ∷ v) [] h g e = absurd (cc)
module_told (b ∷ v) (c ∷ w) h g e =
    let p = and_true (is_small b) (list_all is_name_byte (b ∷ v)) h in
    let q = and_true (is_small c) (list_all is_name_byte (c ∷ w)) g in
    ap₂ (λ z u. z ∷ u) (same_small b c (small_is b p.0).0 (small_is c q.0).0 (first_of e)) (rest_of e)

-- all words of a list pass
pub all_in : (test : List ℕ → Bool) (xs : List (List ℕ)) → list_all test xs ≡ true → (x : List ℕ) → In x xs → test x ≡ true
all_in test [] h x i = absurd i
all_in test (y ∷ ys) h x (inl e) = subst (λ z. test z ≡ true) e (and_true (test y) (list_all test ys) h).0
all_in test (y ∷ ys) h x (inr i) = all_in test ys (and_true (test y) (list_all test ys) h).1 x i

or_right : (a b : Bool) → b ≡ true → (a || b) ≡ true
or_right true b h = refl
or_right false b h = h

is_there : (words : List (List ℕ)) (x : List ℕ) → In x words → is_one_of words x ≡ true
is_there [] x i = absurd i
is_there (y ∷ ys) x (inl e) = subst (λ z. (bytes_eq x z || list_any (bytes_eq x) ys) ≡ true) (sym e) (ap (λ b. b || list_any (bytes_eq x) ys) (same_bytes x))
is_there (y ∷ ys) x (inr i) = or_right (bytes_eq x y) (list_any (bytes_eq x) ys) (is_there ys x i)

not_true : (a : Bool) → not a ≡ true → a ≡ true → ⊥
not_true true h g = absurd (cc)
not_true false h g = absurd (cc)

words_apart : (words : List (List ℕ)) → are_distinct words ≡ true → Distinct words
words_apart [] h = tt
words_apart (x ∷ xs) h =
    let both = and_true (not (is_one_of xs x)) (are_distinct xs) h in
    (λ i. not_true (is_one_of xs x) both.0 (is_there xs x i), words_apart xs both.1)

-- the modules' names in programs are apart where those in the project file are
pub modules_apart : (words : List (List ℕ)) → list_all is_module_name words ≡ true → are_distinct words ≡ true → Distinct (map module_name words)
modules_apart words all apart = distinct_map module_name words (λ x y i j e. module_told x y (all_in is_module_name words all x i) (all_in is_module_name words all y j) e) (words_apart words apart)

pub modules_named : (words : List (List ℕ)) → list_all is_module_name words ≡ true → (x : List ℕ) → In x (map module_name words) → IsName x
modules_named words all x i = named (map-in module_name x words i) where
  named : (y : List ℕ) × In y words × (module_name y ≡ x) → IsName x
  named (y, j, e) = subst IsName e (module_is_name y (all_in is_module_name words all y j))
