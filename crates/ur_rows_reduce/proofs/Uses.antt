-- Occurrences of a variable in the values that the code makes.
use Rattle.std.proofs.Common.{◌≡◌, refl, ap, sym, ◌∙◌, ℕ, suc, ◌+◌, ◌<◌, ◌||◌, Bool, false, List, [], ◌∷◌, length, drop, get_or}
use Rattle.ur_syntax.specs.declared.kind.Kind.{Kind}
use Rattle.ur_rows.specs.declared.normal.Var.{Var}
use Rattle.ur_rows.specs.declared.normal.Label.{Label}
use Rattle.ur_rows.specs.declared.normal.NormalType.{NormalType}
use Rattle.ur_rows.specs.declared.normal.NormalType.TheVariants as ty
use Rattle.ur_rows.specs.declared.normal.Part.{Part}
use Rattle.ur_rows.specs.declared.normal.Part.TheVariants as part
use Rattle.ur_rows.specs.declared.normal.Normal.{Normal}
use Rattle.ur_rows.specs.declared.normal.Normal.TheVariants as normal
use Rattle.ur_rows.specs.Made.{row}
use Rattle.ur_rows.specs.Put.{is_here}
use Rattle.ur_rows.proofs.Shapes.{option-made, list-made, transaction-made, arrow-made, field-made, mapped-made, record-made, form-made, fn-made}
use Rattle.ur_rows.proofs.Telling.{drop-here}
use Rattle.ur_rows_reduce.specs.Occurs.{uses_label, uses_type, uses_parts, uses_part, uses_row, uses, is_used, holds_type, holds_parts, holds_part, holds_row}

pub uses-opt : (d : ℕ) (t : NormalType) → uses_type d (ty.Opt t) ≡ uses_type d t
uses-opt d t = ap (uses_type d) (option-made t)

pub uses-many : (d : ℕ) (t : NormalType) → uses_type d (ty.Many t) ≡ uses_type d t
uses-many d t = ap (uses_type d) (list-made t)

pub uses-transaction : (d : ℕ) (t : NormalType) → uses_type d (ty.Transaction t) ≡ uses_type d t
uses-transaction d t = ap (uses_type d) (transaction-made t)

pub uses-arrow : (d : ℕ) (t u : NormalType) → uses_type d (ty.Arrow t u) ≡ (uses_type d t || uses_type d u)
uses-arrow d t u = ap (uses_type d) (arrow-made t u)

uses-row : (d : ℕ) (r : List Part) → uses_parts d (row r).1 ≡ uses_row d r
uses-row d [] = refl
uses-row d (p ∷ r) = ap (λ b. uses_part d p || b) (uses-row d r)

pub uses-record : (d : ℕ) (r : List Part) → uses_type d (ty.Record r) ≡ uses_row d r
uses-record d r = ap (uses_type d) (record-made r) ∙ uses-row d r

pub uses-form : (d : ℕ) (r : List Part) → uses_type d (ty.Form r) ≡ uses_row d r
uses-form d r = ap (uses_type d) (form-made r) ∙ uses-row d r

pub uses-field : (d : ℕ) (l : Label) (t : NormalType) → uses_part d (part.Field l t) ≡ (uses_label d l || uses_type d t)
uses-field d l t = ap (uses_part d) (field-made l t)

pub uses-mapped : (d : ℕ) (v : Var) (f : NormalType) → uses_part d (part.Mapped v f) ≡ (is_here d v || uses_type (suc d) f)
uses-mapped d v f = ap (uses_part d) (mapped-made v f)

pub uses-fn : (d : ℕ) (k : Kind) (c : Normal) → uses d (normal.Fn k c) ≡ uses (suc d) c
uses-fn d k c = ap (uses d) (fn-made k c)

pub is-used-fn : (k : Kind) (c : Normal) → is_used (normal.Fn k c) ≡ uses 0 c
is-used-fn k c = ap is_used (fn-made k c)

pub uses-here : (d : ℕ) (r : List Part) (i : ℕ) (p : Part) → i < length r → p ≡ get_or r i p → uses_row d (drop i r) ≡ (uses_part d p || uses_row d (drop (i + 1) r))
uses-here d r i p h e = ap (uses_row d) (drop-here r i p h e)

pub ruleset used = (uses-opt, uses-many, uses-transaction, uses-arrow, uses-record, uses-form, uses-field, uses-mapped, uses-fn, is-used-fn, uses-here)

pub holds-opt : (b : Bool) (d : ℕ) (t : NormalType) → holds_type b d (ty.Opt t) ≡ holds_type b d t
holds-opt b d t = ap (holds_type b d) (option-made t)

pub holds-many : (b : Bool) (d : ℕ) (t : NormalType) → holds_type b d (ty.Many t) ≡ holds_type b d t
holds-many b d t = ap (holds_type b d) (list-made t)

pub holds-transaction : (b : Bool) (d : ℕ) (t : NormalType) → holds_type b d (ty.Transaction t) ≡ holds_type b d t
holds-transaction b d t = ap (holds_type b d) (transaction-made t)

pub holds-arrow : (b : Bool) (d : ℕ) (t u : NormalType) → holds_type b d (ty.Arrow t u) ≡ (holds_type b d t || holds_type b d u)
holds-arrow b d t u = ap (holds_type b d) (arrow-made t u)

holds-row : (b : Bool) (d : ℕ) (r : List Part) → holds_parts b d (row r).1 ≡ holds_row b d r
holds-row b d [] = refl
holds-row b d (p ∷ r) = ap (λ c. holds_part b d p || c) (holds-row b d r)

pub holds-record : (b : Bool) (d : ℕ) (r : List Part) → holds_type b d (ty.Record r) ≡ holds_row b d r
holds-record b d r = ap (holds_type b d) (record-made r) ∙ holds-row b d r

pub holds-form : (b : Bool) (d : ℕ) (r : List Part) → holds_type b d (ty.Form r) ≡ holds_row b d r
holds-form b d r = ap (holds_type b d) (form-made r) ∙ holds-row b d r

pub holds-field : (b : Bool) (d : ℕ) (l : Label) (t : NormalType) → holds_part b d (part.Field l t) ≡ holds_type b d t
holds-field b d l t = ap (holds_part b d) (field-made l t)

pub holds-mapped : (b : Bool) (d : ℕ) (v : Var) (f : NormalType) → holds_part b d (part.Mapped v f) ≡ false
holds-mapped b d v f = ap (holds_part b d) (mapped-made v f)

pub holds-here : (b : Bool) (d : ℕ) (r : List Part) (i : ℕ) (p : Part) → i < length r → p ≡ get_or r i p → holds_row b d (drop i r) ≡ (holds_part b d p || holds_row b d (drop (i + 1) r))
holds-here b d r i p h e = ap (holds_row b d) (drop-here r i p h e)

pub ruleset held = (holds-opt, holds-many, holds-transaction, holds-arrow, holds-record, holds-form, holds-field, holds-mapped, holds-here)

pub in-second : (x y p q r : Bool) → r ≡ (x || y) → p ≡ x → p ≡ false → q ≡ y → q ≡ r
in-second x y p q r e f g h = h ∙ sym (e ∙ ap (λ z. z || y) (sym f ∙ g))
