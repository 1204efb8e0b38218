-- Columns with their values, one after the other.
use Rattle.std.proofs.Common.{◌≡◌, ◌∙◌, sym, ap, ap₂, ℕ, zero, suc, ◌+◌, ◌<◌, ◌≤◌, List, [], ◌∷◌, length, drop, get_or, map, Option, Some, append-nil, arith}
use Rattle.std.specs.Prelude.{Contains, slice_index_or}
use Rattle.std.proofs.Math.ListN.{drop_of_length-le}
use Rattle.ur_syntax.specs.declared.sql.SqlExp.{SqlExp}
use Rattle.ur_sqltype.specs.Lists.{all_of, behind}
use Rattle.ur_sqltype.proofs.SqltableValues.{split}
use Rattle.ur_sqltype.specs.Change.{paired}
use Rattle.ur_sqltype.proofs.Lists.{behind-all}

-- ---- a list of what is made of each

pub map-more : {X A B : Type 0} (f : A → Option B) (g : X → A) (xs : List X) (i : ℕ) (x : X) (done more : List B) → i < length xs → x ≡ get_or xs i x → behind done (all_of f (g x ∷ [])) ≡ Some more
    → all_of f (map g xs) ≡ behind done (all_of f (map g (drop i xs))) → all_of f (map g xs) ≡ behind more (all_of f (map g (drop (i + 1) xs)))
map-more f g xs i x done more below at step so_far =
    so_far ∙ ap (λ z. behind done (all_of f (map g z))) (split xs i x below at) ∙ behind-all f done more (g x ∷ []) (map g (drop (i + 1) xs)) step

pub map-end : {X A B : Type 0} (f : A → Option B) (g : X → A) (xs : List X) (i : ℕ) (done : List B) → length xs ≤ i
    → all_of f (map g xs) ≡ behind done (all_of f (map g (drop i xs))) → all_of f (map g xs) ≡ Some done
map-end f g xs i done past so_far = so_far ∙ ap (λ z. behind done (all_of f (map g z))) (drop_of_length-le xs past) ∙ ap Some (append-nil done)

one_up : (k n : ℕ) → k < n → suc k < suc n
one_up k n l = omega (arith, l)

map_at : {X A : Type 0} (g : X → A) (xs : List X) (k : ℕ) (x : X) → k < length xs → slice_index_or xs k x ≡ x → (k < length (map g xs)) × (slice_index_or (map g xs) k (g x) ≡ g x)
map_at g [] k x l e = absurd (omega (arith, l))
map_at g (y ∷ ys) zero x l e = (omega arith, ap g e)
map_at g (y ∷ ys) (suc k) x l e = let h = map_at g ys k x (omega (arith, l)) e in (one_up k (length (map g ys)) h.0, h.1)

pub map-stands : {X A : Type 0} (g : X → A) (xs : List X) (x : X) → Contains xs x → Contains (map g xs) (g x)
map-stands g xs x c = let h = map_at g xs c.0 x c.1 c.2 in (c.0, h.0, h.1)

-- ---- pairs

pairs_left : (names : List (List ℕ)) (values : List SqlExp) (i : ℕ) (a : List ℕ) (v : SqlExp) → length names ≡ length values → i < length names → a ≡ get_or names i a → v ≡ get_or values i v →
    paired (drop i names) (drop i values) ≡ (a, v) ∷ paired (drop (i + 1) names) (drop (i + 1) values)
pairs_left names values i a v e l f g = let m : i < length values = omega (arith, l, e) in ap₂ paired (split names i a l f) (split values i v m g)

pub pair-more : {B : Type 0} (f : List ℕ × SqlExp → Option B) (names : List (List ℕ)) (values : List SqlExp) (i : ℕ) (a : List ℕ) (v : SqlExp) (done more : List B) → length names ≡ length values → i < length names →
    a ≡ get_or names i a → v ≡ get_or values i v → behind done (all_of f ((a, v) ∷ [])) ≡ Some more → all_of f (paired names values) ≡ behind done (all_of f (paired (drop i names) (drop i values))) →
    all_of f (paired names values) ≡ behind more (all_of f (paired (drop (i + 1) names) (drop (i + 1) values)))
pair-more f names values i a v done more e l g h step so_far =
    so_far ∙ ap (λ z. behind done (all_of f z)) (pairs_left names values i a v e l g h) ∙ behind-all f done more ((a, v) ∷ []) (paired (drop (i + 1) names) (drop (i + 1) values)) step

pub pair-end : {B : Type 0} (f : List ℕ × SqlExp → Option B) (names : List (List ℕ)) (values : List SqlExp) (i : ℕ) (done : List B) → length names ≤ i →
    all_of f (paired names values) ≡ behind done (all_of f (paired (drop i names) (drop i values))) → all_of f (paired names values) ≡ Some done
pair-end f names values i done past so_far = so_far ∙ ap (λ z. behind done (all_of f (paired z (drop i values)))) (drop_of_length-le names past) ∙ ap Some (append-nil done)

pair_at : (names : List (List ℕ)) (values : List SqlExp) (i : ℕ) (a : List ℕ) (v : SqlExp) → length names ≡ length values → i < length names → a ≡ get_or names i a → v ≡ get_or values i v →
    (i < length (paired names values)) × (slice_index_or (paired names values) i (a, v) ≡ (a, v))
pair_at [] values i a v e l f g = absurd (omega (arith, l))
pair_at (b ∷ names) [] i a v e l f g = absurd (omega (arith, e))
pair_at (b ∷ names) (u ∷ values) zero a v e l f g = (omega arith, ap₂ (λ (c : List ℕ) (w : SqlExp). (c, w)) (sym f) (sym g))
pair_at (b ∷ names) (u ∷ values) (suc i) a v e l f g =
    let h = pair_at names values i a v (omega (arith, e)) (omega (arith, l)) f g in (one_up i (length (paired names values)) h.0, h.1)

pub pair-stands : (names : List (List ℕ)) (values : List SqlExp) (i : ℕ) (a : List ℕ) (v : SqlExp) → length names ≡ length values → i < length names → a ≡ get_or names i a → v ≡ get_or values i v → Contains (paired names values) (a, v)
pair-stands names values i a v e l f g = let h = pair_at names values i a v e l f g in (i, h.0, h.1)
