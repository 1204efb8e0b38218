-- A form that is seen from further within has no fewer nodes.
use Rattle.std.proofs.Common.{◌≡◌, refl, sym, ◌∙◌, subst, ℕ, zero, suc, ◌+◌, ◌<◌, ◌≤◌, arith, Bool, true, false, not, nat_lt, List, [], ◌∷◌, if◌then◌else◌}
use Rattle.ur_rows.specs.declared.normal.Var.TheVariants as var
use Rattle.ur_rows.specs.declared.normal.NormalType.{NormalType}
use Rattle.ur_rows.specs.declared.normal.NormalType.TheVariants as ty
use Rattle.ur_rows.specs.declared.normal.NormalType.TheBlock.{end_of-NormalType as alone, more_of-NormalType as its, Row_of-Part, end_of-Part as end, more_of-Part as more}
use Rattle.ur_rows.specs.declared.normal.Part.{Part}
use Rattle.ur_rows.specs.declared.normal.Part.TheVariants as part
use Rattle.ur_rows.specs.declared.normal.Normal.{Normal}
use Rattle.ur_rows.specs.declared.normal.Normal.TheVariants as normal
use Rattle.ur_rows.specs.declared.normal.Normal.TheBlock.{end_of-Normal as sole, more_of-Normal as the}
use Rattle.ur_rows.specs.Made.{parts}
use Rattle.ur_rows.specs.IsNormal.{is_row, is_identity, is_normal_type, are_normal_parts, is_normal_part, all_normal_parts, is_normal}
use Rattle.ur_rows.specs.Nodes.{type_nodes, parts_nodes, part_nodes, row_nodes, nodes}
use Rattle.ur_rows.specs.Put.{put, put_type, put_parts, put_part, put_row, raised_var, raising}
use Rattle.ur_rows.proofs.Order.{and-left, and-right}
use Rattle.ur_rows_reduce.proofs.After.{joined-nodes, record-nodes, form-nodes, one-part, one-mapped, one-up, both-up, one-least, proper-count, not-true, far}

far-raised : (by d : ℕ) (g : NormalType) → is_identity g ≡ false → is_identity (put_type (raising by) (suc d) g) ≡ false
far-raised by d (ty.Variable (var.Free n)) e = refl
far-raised by d (ty.Variable (var.Bound zero)) e = absurd (cc)
far-raised by d (ty.Variable (var.Bound (suc i))) e = go (nat_lt (suc i) (suc d)) where
  plus : (i by : ℕ) → 0 < suc i + by
  plus i by = omega arith

  next : (i : ℕ) → 0 < suc i
  next i = omega arith

  go : (b : Bool) → is_identity (ty.Variable (if b then var.Bound (suc i) else var.Bound (suc i + by))) ≡ false
  go true = far (suc i) (next i)
  go false = far (suc i + by) (plus i by)
far-raised by d (ty.Opt' _ (its g alone)) e = refl
far-raised by d (ty.Many' _ (its g alone)) e = refl
far-raised by d (ty.Transaction' _ (its g alone)) e = refl
far-raised by d (ty.Arrow' _ (its a alone) _ (its b alone)) e = refl
far-raised by d (ty.Record' _ r) e = refl
far-raised by d (ty.Form' _ r) e = refl
far-raised by d g e = e

mutual
  pub type-raised : (by d : ℕ) (f : NormalType) → is_normal_type f ≡ true → type_nodes f ≤ type_nodes (put_type (raising by) d f)
  type-raised by d (ty.Variable v) e = one-least (put_type (raising by) d (ty.Variable v))
  type-raised by d (ty.Opt' _ (its f alone)) e = one-up (type_nodes f) (type_nodes (put_type (raising by) d f)) (type-raised by d f e)
  type-raised by d (ty.Many' _ (its f alone)) e = one-up (type_nodes f) (type_nodes (put_type (raising by) d f)) (type-raised by d f e)
  type-raised by d (ty.Transaction' _ (its f alone)) e = one-up (type_nodes f) (type_nodes (put_type (raising by) d f)) (type-raised by d f e)
  type-raised by d (ty.Arrow' _ (its a alone) _ (its b alone)) e =
      one-up (type_nodes a + type_nodes b) (type_nodes (put_type (raising by) d a) + type_nodes (put_type (raising by) d b))
      (both-up (type_nodes a) (type_nodes b) (type_nodes (put_type (raising by) d a)) (type_nodes (put_type (raising by) d b))
      (type-raised by d a (and-left (is_normal_type a) (is_normal_type b) e)) (type-raised by d b (and-right (is_normal_type a) (is_normal_type b) e)))
  type-raised by d (ty.Record' _ r) e = subst (λ n. parts_nodes r + 1 ≤ n) (sym (record-nodes (put_parts (raising by) d r)))
      (one-up (parts_nodes r) (row_nodes (put_parts (raising by) d r)) (parts-raised by d r (and-right (is_row (parts r)) (are_normal_parts r) e)))
  type-raised by d (ty.Form' _ r) e = subst (λ n. parts_nodes r + 1 ≤ n) (sym (form-nodes (put_parts (raising by) d r)))
      (one-up (parts_nodes r) (row_nodes (put_parts (raising by) d r)) (parts-raised by d r (and-right (is_row (parts r)) (are_normal_parts r) e)))
  type-raised by d f e = omega arith

  parts-raised : {n : _} (by d : ℕ) (r : Row_of-Part n) → are_normal_parts r ≡ true → parts_nodes r ≤ row_nodes (put_parts (raising by) d r)
  parts-raised by d end e = omega arith
  parts-raised by d (more p r) e = subst (λ n. part_nodes p + parts_nodes r ≤ n) (sym (joined-nodes (put_part (raising by) d p) (put_parts (raising by) d r)))
      (both-up (part_nodes p) (parts_nodes r) (row_nodes (put_part (raising by) d p)) (row_nodes (put_parts (raising by) d r))
      (part-raised by d p (and-left (is_normal_part p) (are_normal_parts r) e)) (parts-raised by d r (and-right (is_normal_part p) (are_normal_parts r) e)))

  part-raised : (by d : ℕ) (p : Part) → is_normal_part p ≡ true → part_nodes p ≤ row_nodes (put_part (raising by) d p)
  part-raised by d (part.Field' l _ (its f alone)) e = subst (λ n. type_nodes f + 1 ≤ n) (sym (one-part (type_nodes (put_type (raising by) d f) + 1)))
      (one-up (type_nodes f) (type_nodes (put_type (raising by) d f)) (type-raised by d f e))
  part-raised by d (part.Piece v) e = omega arith
  part-raised by d (part.Mapped' v _ (its f alone)) e =
      subst (λ n. type_nodes f + 1 ≤ n) (sym (one-mapped (put_type (raising by) (suc d) f) (raised_var by d v) ∙ proper-count (put_type (raising by) (suc d) f)
      (far-raised by d f (not-true (is_identity f) (and-left (not (is_identity f)) (is_normal_type f) e)))))
      (one-up (type_nodes f) (type_nodes (put_type (raising by) (suc d) f)) (type-raised by (suc d) f (and-right (not (is_identity f)) (is_normal_type f) e)))

pub row-raised : (by d : ℕ) (r : List Part) → all_normal_parts r ≡ true → row_nodes r ≤ row_nodes (put_row (raising by) d r)
row-raised by d [] e = omega arith
row-raised by d (p ∷ r) e = subst (λ n. part_nodes p + row_nodes r ≤ n) (sym (joined-nodes (put_part (raising by) d p) (put_row (raising by) d r)))
    (both-up (part_nodes p) (row_nodes r) (row_nodes (put_part (raising by) d p)) (row_nodes (put_row (raising by) d r))
    (part-raised by d p (and-left (is_normal_part p) (all_normal_parts r) e)) (row-raised by d r (and-right (is_normal_part p) (all_normal_parts r) e)))

pub nodes-raised : (by d : ℕ) (n : Normal) → is_normal n ≡ true → nodes n ≤ nodes (put (raising by) d n)
nodes-raised by d (normal.Type t) e = type-raised by d t e
nodes-raised by d (normal.Name l) e = omega arith
nodes-raised by d (normal.Row r) e = one-up (row_nodes r) (row_nodes (put_row (raising by) d r)) (row-raised by d r (and-right (is_row r) (all_normal_parts r) e))
nodes-raised by d (normal.Fn' k _ (the c sole)) e = one-up (nodes c) (nodes (put (raising by) (suc d) c)) (nodes-raised by (suc d) c e)
