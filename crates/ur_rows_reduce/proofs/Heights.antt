-- The heights of the values that the code makes.
use Rattle.std.proofs.Common.{◌≡◌, refl, ap, ap₂, sym, ℕ, ◌+◌, ◌<◌, ◌≤◌, max, arith, List, [], ◌∷◌, ◌∙◌, length, drop, get_or}
use Rattle.ur_rows.specs.declared.normal.Var.{Var}
use Rattle.ur_rows.specs.declared.normal.Label.{Label}
use Rattle.ur_rows.specs.declared.normal.NormalType.{NormalType}
use Rattle.ur_rows.specs.declared.normal.NormalType.TheVariants as ty
use Rattle.ur_rows.specs.declared.normal.Part.{Part}
use Rattle.ur_rows.specs.declared.normal.Part.TheVariants as part
use Rattle.ur_syntax.specs.declared.kind.Kind.{Kind}
use Rattle.ur_rows.specs.declared.normal.Normal.{Normal}
use Rattle.ur_rows.specs.declared.normal.Normal.TheVariants as normal
use Rattle.ur_rows.specs.Made.{row, record_of, form_of}
use Rattle.ur_rows.proofs.Shapes.{option-made, list-made, transaction-made, arrow-made, field-made, mapped-made, record-made, form-made, fn-made}
use Rattle.ur_rows.proofs.Telling.{drop-here}
use Rattle.ur_rows_reduce.specs.Height.{type_height, parts_height, part_height, row_height, height}

pub height-opt : (t : NormalType) → type_height (ty.Opt t) ≡ type_height t + 1
height-opt t = ap type_height (option-made t)

pub height-many : (t : NormalType) → type_height (ty.Many t) ≡ type_height t + 1
height-many t = ap type_height (list-made t)

pub height-transaction : (t : NormalType) → type_height (ty.Transaction t) ≡ type_height t + 1
height-transaction t = ap type_height (transaction-made t)

pub height-arrow : (a b : NormalType) → type_height (ty.Arrow a b) ≡ max (type_height a) (type_height b) + 1
height-arrow a b = ap type_height (arrow-made a b)

pub height-parts : (r : List Part) → parts_height (row r).1 ≡ row_height r
height-parts [] = refl
height-parts (p ∷ r) = ap (λ n. max (part_height p) n) (height-parts r)

pub record-height : (r : List Part) → type_height (record_of r) ≡ row_height r + 1
record-height r = ap (λ n. n + 1) (height-parts r)

pub form-height : (r : List Part) → type_height (form_of r) ≡ row_height r + 1
form-height r = ap (λ n. n + 1) (height-parts r)

pub height-record : (r : List Part) → type_height (ty.Record r) ≡ row_height r + 1
height-record r = ap type_height (record-made r) ∙ record-height r

pub height-form : (r : List Part) → type_height (ty.Form r) ≡ row_height r + 1
height-form r = ap type_height (form-made r) ∙ form-height r

pub height-field : (l : Label) (t : NormalType) → part_height (part.Field l t) ≡ type_height t + 1
height-field l t = ap part_height (field-made l t)

pub height-mapped : (v : Var) (t : NormalType) → part_height (part.Mapped v t) ≡ type_height t + 1
height-mapped v t = ap part_height (mapped-made v t)

pub height-here : (r : List Part) (i : ℕ) (p : Part) → i < length r → p ≡ get_or r i p → row_height (drop i r) ≡ max (part_height p) (row_height (drop (i + 1) r))
height-here r i p h e = ap row_height (drop-here r i p h e)

pub height-fn : (k : Kind) (c : Normal) → height (normal.Fn k c) ≡ height c + 1
height-fn k c = ap height (fn-made k c)

pub ruleset heights = (height-fn, height-opt, height-many, height-transaction, height-arrow, height-record, height-form, height-field, height-mapped, height-here)

-- one level more
pub one-higher : (inner below levels x y : ℕ) → below + 1 ≡ levels → (inner ≡ x) × (inner ≤ below) → y ≡ x + 1 → (inner + 1 ≡ y) × (inner + 1 ≤ levels)
one-higher inner below levels x y e h f = (first h.0, second h.1) where
  first : inner ≡ x → inner + 1 ≡ y
  first g = omega arith

  second : inner ≤ below → inner + 1 ≤ levels
  second g = omega arith

pub field-height : (p : Part) (l : Label) (t x : NormalType) → p ≡ part.Field l t → x ≡ t → part_height p ≡ type_height x + 1
field-height p l t x i j = ap part_height i ∙ height-field l t ∙ ap (λ z. type_height z + 1) (sym j)

pub mapped-height : (p : Part) (v : Var) (t x : NormalType) → p ≡ part.Mapped v t → x ≡ t → part_height p ≡ type_height x + 1
mapped-height p v t x i j = ap part_height i ∙ height-mapped v t ∙ ap (λ z. type_height z + 1) (sym j)

pub arrow-height : (t a b x y : NormalType) → t ≡ ty.Arrow a b → x ≡ a → y ≡ b → type_height t ≡ max (type_height x) (type_height y) + 1
arrow-height t a b x y i j k = ap type_height i ∙ height-arrow a b ∙ ap₂ (λ y z. max (type_height y) (type_height z) + 1) (sym j) (sym k)

pub fn-height : (n c x : Normal) (k : Kind) → n ≡ normal.Fn k c → x ≡ c → height n ≡ height x + 1
fn-height n c x k i j = ap height i ∙ height-fn k c ∙ ap (λ z. height z + 1) (sym j)
