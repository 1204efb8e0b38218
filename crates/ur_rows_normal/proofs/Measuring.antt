-- The heights of arguments.
use Rattle.std.proofs.Common.{slice_get, None, ◌≡◌, refl, ap, ap₂, sym, ◌∙◌, subst, ℕ, zero, suc, ◌+◌, ◌-◌, ◌<◌, ◌≤◌, max, arith, List, [], ◌∷◌, ◌++◌, length, take, get_or, slice_index_or}
use Rattle.std.specs.Prelude.{map}
use Rattle.std.proofs.lemmas.List.{take_more, take_all}
use Rattle.ur_rows.specs.declared.normal.Var.{Var}
use Rattle.ur_rows.specs.declared.normal.Var.TheVariants as var
use Rattle.ur_rows.specs.declared.normal.Normal.{Normal}
use Rattle.ur_rows.specs.declared.normal.Normal.TheVariants as normal
use Rattle.ur_rows.specs.Made.{unit}
use Rattle.ur_rows.specs.Put.{as_type, as_row, arguments}
use Rattle.ur_rows_reduce.specs.Height.{type_height, row_height}
use Rattle.ur_rows_reduce.specs.Lifts.{Within, over_map}
use Rattle.ur_rows_reduce.proofs.Lifting.{mapped-height}
use Rattle.ur_rows_normal.specs.Arguments.{free_height, at_numbers}

abbrev as-type : Normal → ℕ
as-type n = type_height (as_type n)

abbrev as-row : Normal → ℕ
as-row n = row_height (as_row n)

-- a height of each, and one level where there is none
types-read : (args : List Normal) (n : ℕ) → slice_index_or (map as-type args) n 1 ≡ as-type (slice_index_or args n (normal.Type unit))
types-read [] n = refl
types-read (a ∷ args) zero = refl
types-read (a ∷ args) (suc n) = types-read args n

rows-read : (args : List Normal) (n : ℕ) → as-row (slice_index_or args n (normal.Type unit)) ≤ slice_index_or (map as-row args) n 1
rows-read [] n = omega arith
rows-read (a ∷ args) zero = omega arith
rows-read (a ∷ args) (suc n) = rows-read args n

-- a variable that nothing stands for
pub no-height : (hs : List ℕ) (v : Var) (n : ℕ) → v ≡ var.Free n → None ≡ slice_get hs n → 1 ≡ free_height hs v
no-height hs v n e f = sym (ap (free_height hs) e ∙ go hs n f) where
  go : (hs : List ℕ) (n : ℕ) → None ≡ slice_get hs n → slice_index_or hs n 1 ≡ 1
  go [] n f = refl
  go (h ∷ hs) zero f = absurd (cc)
  go (h ∷ hs) (suc n) f = go hs n f

types-within : (args : List Normal) (d : ℕ) (v : Var) → type_height ((arguments args).types d v) ≤ free_height (map as-type args) v
types-within args d (var.Free n) = same (as-type (slice_index_or args n (normal.Type unit))) (slice_index_or (map as-type args) n 1) (types-read args n) where
  same : (a b : ℕ) → b ≡ a → a ≤ b
  same a b e = omega arith
types-within args d (var.Bound i) = omega arith

rows-within : (args : List Normal) (d : ℕ) (v : Var) → row_height ((arguments args).rows d v) ≤ free_height (map as-row args) v
rows-within args d (var.Free n) = rows-read args n
rows-within args d (var.Bound i) = omega arith

over : (h m n : ℕ) {x : ℕ} → x ≤ h + over_map m → m ≤ n → x ≤ h + over_map n
over h m n {x} i j = go i where
  go : x ≤ h + max (m - 1) 1 → x ≤ h + max (n - 1) 1
  go k = omega arith

arguments-within : (args : List Normal) → Within (at_numbers (map as-type args) (map as-row args)) (arguments args)
arguments-within args = record {
  types = types-within args;
  rows = rows-within args;
  maps = λ d v g. over (type_height g) (row_height ((arguments args).rows d v)) (free_height (map as-row args) v) (mapped-height g ((arguments args).rows d v)) (rows-within args d v);
}

-- ---- the loop

abbrev pub Measured : List Normal → List ℕ → List ℕ → ℕ → Type 0
Measured args types rows i = (types ≡ map as-type (take i args)) × (rows ≡ map as-row (take i args))

map-more : (f : Normal → ℕ) (xs : List Normal) (x : Normal) → map f (xs ++ x ∷ []) ≡ map f xs ++ f x ∷ []
map-more f [] x = refl
map-more f (y ∷ xs) x = ap (λ z. f y ∷ z) (map-more f xs x)

one-more : (f : Normal → ℕ) (args : List Normal) (i h : ℕ) (a : Normal) (old new : List ℕ) → i < length args → a ≡ get_or args i a → h ≡ f a → old ≡ map f (take i args) → new ≡ old ++ h ∷ [] →
    new ≡ map f (take (i + 1) args)
one-more f args i h a old new k e g m n = n ∙ ap₂ (λ x y. x ++ y ∷ []) m (g ∙ ap f e) ∙ sym (map-more f (take i args) (get_or args i a)) ∙ ap (map f) (sym (take_more args i a k))

pub measured-none : (args : List Normal) (types rows : List ℕ) → types ≡ [] → rows ≡ [] → Measured args types rows 0
measured-none args types rows e f = (e ∙ sym (ap (map as-type) (none args)), f ∙ sym (ap (map as-row) (none args))) where
  none : (xs : List Normal) → take 0 xs ≡ []
  none [] = refl
  none (x ∷ xs) = refl

pub measured-more : (args : List Normal) (types rows more_types more_rows : List ℕ) (i h k : ℕ) (a : Normal) → i < length args → a ≡ get_or args i a → h ≡ as-type a → k ≡ as-row a →
    more_types ≡ types ++ h ∷ [] → more_rows ≡ rows ++ k ∷ [] → Measured args types rows i → Measured args more_types more_rows (i + 1)
measured-more args types rows more_types more_rows i h k a l e f g m n s = (one-more as-type args i h a types more_types l e f s.0 m, one-more as-row args i k a rows more_rows l e g s.1 n)

pub measured-all : (args : List Normal) (types rows : List ℕ) (i : ℕ) → length args ≤ i → Measured args types rows i → Within (at_numbers types rows) (arguments args)
measured-all args types rows i h s = subst (λ z. Within (at_numbers z rows) (arguments args)) (sym (s.0 ∙ ap (map as-type) (take_all i args h)))
    (subst (λ z. Within (at_numbers (map as-type args) z) (arguments args)) (sym (s.1 ∙ ap (map as-row) (take_all i args h))) (arguments-within args))
