-- The field of a name.
use Rattle.std.proofs.Common.{◌≡◌, ap, ap₂, sym, ◌∙◌, ℕ, suc, ◌+◌, ◌<◌, ◌≤◌, arith, Bool, true, false, if◌then◌else◌, List, [], ◌∷◌, ◌++◌, length, take, drop, get_or, Some}
use Rattle.std.specs.List.{remove}
use Rattle.std.proofs.Math.Seq.{append_snoc}
use Rattle.std.proofs.Math.ListN.{drop_of_length-le}
use Rattle.std.proofs.lemmas.List.{take_more, take_all, append-nil}
use Rattle.ur_rows.specs.declared.normal.Label.{Label}
use Rattle.ur_rows.specs.declared.normal.NormalType.{NormalType}
use Rattle.ur_rows.specs.declared.normal.Part.{Part}
use Rattle.ur_rows.specs.declared.normal.Part.TheVariants as part
use Rattle.ur_rows.specs.Types.{same_label, is_field, part_type, field_type, without}
use Rattle.ur_rows.proofs.Shapes.{field-made, mapped-made}
use Rattle.ur_rows.proofs.Telling.{drop-here}

pub field-is : (l m : Label) (t : NormalType) → is_field l (part.Field m t) ≡ same_label l m
field-is l m t = ap (is_field l) (field-made m t)

pub type-is : (m : Label) (t : NormalType) → part_type (part.Field m t) ≡ Some t
type-is m t = ap part_type (field-made m t)

pub piece-is : (l : Label) (p : Part) (v : _) → p ≡ part.Piece v → is_field l p ≡ false
piece-is l p v e = ap (is_field l) e

pub mapped-is : (l : Label) (v : _) (f : NormalType) → is_field l (part.Mapped v f) ≡ false
mapped-is l v f = ap (is_field l) (mapped-made v f)

pub ruleset parts = (field-is, type-is, mapped-is)

pub type-found : (l m : Label) (p : Part) (t x : NormalType) (b : Bool) → p ≡ part.Field m t → b ≡ same_label l m → b ≡ true → x ≡ t → (is_field l p ≡ true) × (part_type p ≡ Some x)
type-found l m p t x b i e f j = (ap (is_field l) i ∙ field-is l m t ∙ sym e ∙ f, ap part_type i ∙ type-is m t ∙ ap (λ z. Some z) (sym j))

pub found-here : (l : Label) (r : List Part) (i : ℕ) (p : Part) → i < length r → p ≡ get_or r i p → is_field l p ≡ true → field_type l (drop i r) ≡ part_type p
found-here l r i p h e f = ap (field_type l) (drop-here r i p h e) ∙ ap (λ (b : Bool). if b then part_type p else field_type l (drop (i + 1) r)) f

pub passed-here : (l : Label) (r : List Part) (i : ℕ) (p : Part) → i < length r → p ≡ get_or r i p → is_field l p ≡ false → field_type l (drop i r) ≡ field_type l (drop (i + 1) r)
passed-here l r i p h e f = ap (field_type l) (drop-here r i p h e) ∙ ap (λ (b : Bool). if b then part_type p else field_type l (drop (i + 1) r)) f

-- ---- a row without a field

-- the parts so far are not the field
abbrev pub Passed : Label → List Part → ℕ → Type 0
Passed l r i = without l r ≡ take i r ++ without l (drop i r)

pub passed-one : (l : Label) (r : List Part) (i : ℕ) (p : Part) → i < length r → p ≡ get_or r i p → is_field l p ≡ false → Passed l r i → Passed l r (i + 1)
passed-one l r i p h e f g = g ∙ ap (λ z. take i r ++ z) here ∙ sym (append_snoc (take i r) p (without l (drop (i + 1) r))) ∙ ap (λ z. z ++ without l (drop (i + 1) r)) (sym front) where
  here : without l (drop i r) ≡ p ∷ without l (drop (i + 1) r)
  here = ap (without l) (drop-here r i p h e) ∙ ap (λ (b : Bool). if b then drop (i + 1) r else p ∷ without l (drop (i + 1) r)) f

  front : take (i + 1) r ≡ take i r ++ p ∷ []
  front = take_more r i p h ∙ ap (λ z. take i r ++ z ∷ []) (sym e)

pub removed-one : (l : Label) (r : List Part) (i : ℕ) (p : Part) → i < length r → p ≡ get_or r i p → is_field l p ≡ true → Passed l r i → without l r ≡ remove r i
removed-one l r i p h e f g = g ∙ ap (λ z. take i r ++ z) here where
  next : (n : ℕ) → n + 1 ≡ suc n
  next n = omega arith

  here : without l (drop i r) ≡ drop (suc i) r
  here = ap (without l) (drop-here r i p h e) ∙ ap (λ (b : Bool). if b then drop (i + 1) r else p ∷ without l (drop (i + 1) r)) f ∙ ap (λ n. drop n r) (next i)

pub passed-all : (l : Label) (r : List Part) (i : ℕ) → length r ≤ i → Passed l r i → without l r ≡ r
passed-all l r i h g = g ∙ ap₂ (λ x y. x ++ without l y) (take_all i r h) (drop_of_length-le r h) ∙ append-nil r
