-- Outlines of rows: each field's type, and each function that is mapped, is unit.
use Rattle.std.proofs.Common.{◌≡◌, refl, ap, ap₂, sym, ◌∙◌, subst, ℕ, zero, suc, ◌+◌, ◌≤◌, ◌==◌, arith, true, false, not, List, [], ◌∷◌, ◌++◌}
use Rattle.std.proofs.lemmas.Bool.Decides.{nat_tests}
use Rattle.ur_rows.specs.declared.normal.Var.{Var}
use Rattle.ur_rows.specs.declared.normal.Var.TheVariants as var
use Rattle.ur_rows.specs.declared.normal.NormalType.{NormalType}
use Rattle.ur_rows.specs.declared.normal.NormalType.TheVariants as ty
use Rattle.ur_rows.specs.declared.normal.NormalType.TheBlock.{end_of-NormalType as alone, more_of-NormalType as its}
use Rattle.ur_rows.specs.declared.normal.Part.{Part}
use Rattle.ur_rows.specs.declared.normal.Part.TheVariants as part
use Rattle.ur_rows.specs.Made.{unit, field, mapped}
use Rattle.ur_rows.specs.IsNormal.{is_identity, is_normal_type, is_normal_part, all_normal_parts}
use Rattle.ur_rows.specs.Nodes.{type_nodes, part_nodes, row_nodes}
use Rattle.ur_rows.specs.Order.{with_part, joined}
use Rattle.ur_rows.specs.Put.{put_type, put_part, put_row, raising, mapped_variable, applied_type, composed, type_at, mapped_part, mapped_row}
use Rattle.ur_rows.proofs.Order.{with_part-swap, and-left, and-right}
use Rattle.ur_rows.proofs.PutAfter.{put_row-with_part, mapped_row-with_part, mapped_row-joined, mapped_row-twice, composed-itself, raised-same}
use Rattle.ur_rows_reduce.specs.Occurs.{uses_type, holds_type}
use Rattle.ur_rows_reduce.specs.Mapping.{mapped_nodes}
use Rattle.ur_rows_reduce.proofs.After.{with_part-nodes, mapped-count, mapped-least, proper-count, one-least, both-up, one-up, not-true}
use Rattle.ur_rows_reduce.proofs.Occurring.{unused-type, types-alike, dropped-type, held-type}

-- ---- of a row that is made

pub mapped_row-append : (f : NormalType) (r : List Part) (p : Part) → mapped_row f (r ++ p ∷ []) ≡ with_part (mapped_part f p) (mapped_row f r)
mapped_row-append f [] p = refl
mapped_row-append f (q ∷ r) p = ap (with_part (mapped_part f q)) (mapped_row-append f r p) ∙ with_part-swap (mapped_part f q) (mapped_part f p) (mapped_row f r)

pub outline-mapped : (f : NormalType) (r : List Part) → mapped_row unit (mapped_row f r) ≡ mapped_row unit r
outline-mapped f r = mapped_row-twice unit f r refl

unit-variable : (g : NormalType) (v : Var) → mapped_part unit (mapped_variable g v) ≡ mapped v unit
unit-variable (ty.Variable (var.Bound zero)) v = refl
unit-variable g v = refl

raised-part : (by d : ℕ) (p : Part) → mapped_row unit (put_part (raising by) d p) ≡ put_part (raising by) d (mapped_part unit p)
raised-part by d (part.Field' l _ (its t alone)) = refl
raised-part by d (part.Piece v) = refl
raised-part by d (part.Mapped' v _ (its f alone)) = ap (λ x. x ∷ []) (unit-variable (put_type (raising by) (suc d) f) _)

pub outline-raised : (by d : ℕ) (r : List Part) → mapped_row unit (put_row (raising by) d r) ≡ put_row (raising by) d (mapped_row unit r)
outline-raised by d [] = refl
outline-raised by d (p ∷ r) = mapped_row-joined unit (put_part (raising by) d p) (put_row (raising by) d r) ∙
    ap₂ joined (raised-part by d p) (outline-raised by d r) ∙ sym (put_row-with_part (raising by) d (mapped_part unit p) (mapped_row unit r))

-- ---- a function that drops its argument

-- the identity's body
abbrev itself : NormalType
itself = ty.Variable (var.Bound 0)

dropped-composed : (f g h : NormalType) → uses_type 0 f ≡ false → composed f g ≡ composed f h
dropped-composed f g h e = unused-type (types-alike 0 g h) 0 f e

dropped-itself : (f : NormalType) → is_normal_type f ≡ true → uses_type 0 f ≡ false → f ≡ composed f unit
dropped-itself f n e = sym (composed-itself f n) ∙ dropped-composed f itself unit e

dropped-part : (f : NormalType) (p : Part) → is_normal_type f ≡ true → uses_type 0 f ≡ false → mapped_part f p ≡ mapped_part f (mapped_part unit p)
dropped-part f (part.Field' l _ (its t alone)) n e = ap (field l) (dropped-type f t unit e)
dropped-part f (part.Piece v) n e = ap (λ g. mapped_variable g v) (dropped-itself f n e)
dropped-part f (part.Mapped' v _ (its g alone)) n e = ap (λ h. mapped_variable h v) (dropped-composed f g unit e)

pub dropped-row : (f : NormalType) (r : List Part) → is_normal_type f ≡ true → uses_type 0 f ≡ false → mapped_row f r ≡ mapped_row f (mapped_row unit r)
dropped-row f [] n e = refl
dropped-row f (p ∷ r) n e = ap₂ with_part (dropped-part f p n e) (dropped-row f r n e) ∙ sym (mapped_row-with_part f (mapped_part unit p) (mapped_row unit r))

-- ---- a function that holds its argument

held-proper : (f g : NormalType) → holds_type false 0 f ≡ true → is_normal_type g ≡ true → is_identity g ≡ false → is_identity (composed f g) ≡ false
held-proper (ty.Variable (var.Free n)) g h e i = absurd (cc)
held-proper (ty.Variable (var.Bound zero)) g h e i = ap is_identity (raised-same g e) ∙ i
held-proper (ty.Variable (var.Bound (suc n))) g h e i = absurd (never n h) where
  never : (n : ℕ) → (suc n == 0) ≡ true → ⊥
  never n k = grind (arith, nat_tests)
held-proper (ty.Opt' _ (its t alone)) g h e i = refl
held-proper (ty.Many' _ (its t alone)) g h e i = refl
held-proper (ty.Transaction' _ (its t alone)) g h e i = refl
held-proper (ty.Arrow' _ (its t alone) _ (its u alone)) g h e i = refl
held-proper (ty.Record' _ r) g h e i = refl
held-proper (ty.Form' _ r) g h e i = refl
held-proper f g h e i = absurd (cc)

at-least : (f t : NormalType) (by : ℕ) → holds_type false 0 f ≡ true → is_normal_type t ≡ true → type_nodes t ≤ type_nodes (put_type (type_at by t) 0 f)
at-least f t by h e = subst (λ z. type_nodes z ≤ type_nodes (put_type (type_at by t) 0 f)) (raised-same t e) (held-type (type_at by t) false 0 f h)

held-part : (f : NormalType) (p : Part) → holds_type false 0 f ≡ true → is_normal_part p ≡ true → part_nodes p ≤ part_nodes (mapped_part f p)
held-part f (part.Field' l _ (its t alone)) h e = one-up (type_nodes t) (type_nodes (applied_type f t)) (at-least f t 1 h e)
held-part f (part.Piece v) h e = subst (λ n. 1 ≤ n) (sym (mapped-count f v)) (chain (type_nodes f) (mapped_nodes f) (one-least f) (mapped-least f)) where
  chain : (a b : ℕ) → 1 ≤ a → a ≤ b → 1 ≤ b
  chain a b x y = omega arith
held-part f (part.Mapped' v _ (its g alone)) h e =
    subst (λ n. type_nodes g + 1 ≤ n) (sym (mapped-count (composed f g) v ∙ proper-count (composed f g) (held-proper f g h normal-g (not-true (is_identity g) (and-left (not (is_identity g)) (is_normal_type g) e)))))
    (one-up (type_nodes g) (type_nodes (composed f g)) (at-least f g 0 h normal-g)) where
      normal-g : is_normal_type g ≡ true
      normal-g = and-right (not (is_identity g)) (is_normal_type g) e

pub held-map : (f : NormalType) (r : List Part) → holds_type false 0 f ≡ true → all_normal_parts r ≡ true → row_nodes r ≤ row_nodes (mapped_row f r)
held-map f [] h e = omega arith
held-map f (p ∷ r) h e = subst (λ n. part_nodes p + row_nodes r ≤ n) (sym (with_part-nodes (mapped_part f p) (mapped_row f r)))
    (both-up (part_nodes p) (row_nodes r) (part_nodes (mapped_part f p)) (row_nodes (mapped_row f r))
    (held-part f p h (and-left (is_normal_part p) (all_normal_parts r) e)) (held-map f r h (and-right (is_normal_part p) (all_normal_parts r) e)))
