-- What stands for the free variables is in normal form.
use Rattle.std.proofs.Common.{◌≡◌, refl, ap, sym, ◌∙◌, ℕ, zero, suc, Bool, true, false, List, [], ◌∷◌, slice_index_or, IsTrue, ◌↔◌}
use Rattle.ur_rows.specs.declared.normal.Var.{Var}
use Rattle.ur_rows.specs.declared.normal.Var.TheVariants as var
use Rattle.ur_rows.specs.declared.normal.Part.{Part}
use Rattle.ur_rows.specs.declared.normal.Normal.{Normal}
use Rattle.ur_rows.specs.declared.normal.Normal.TheVariants as normal
use Rattle.ur_rows.specs.Made.{unit}
use Rattle.ur_rows.specs.IsNormal.{is_normal, is_normal_type, is_row, all_normal_parts}
use Rattle.ur_rows.specs.Put.{as_row, arguments, put_type, mapped_row}
use Rattle.ur_rows.proofs.Order.{and-left, and-right}
use Rattle.ur_rows.proofs.InOrder.{PutsNormal, put_type-normal, as_type-normal, as_row-normal, mapped_row-normal}
use Rattle.ur_rows_reduce.specs.Mapping.{Drops}
use Rattle.ur_rows_reduce.proofs.After.{row-grows}
use Rattle.ur_rows_normal.specs.Arguments.{are_normal}

one-normal : (args : List Normal) (n : ℕ) → are_normal args ≡ true → is_normal (slice_index_or args n (normal.Type unit)) ≡ true
one-normal [] n e = refl
one-normal (a ∷ args) zero e = and-left (is_normal a) (are_normal args) e
one-normal (a ∷ args) (suc n) e = one-normal args n (and-right (is_normal a) (are_normal args) e)

types-normal : (args : List Normal) → are_normal args ≡ true → (d : ℕ) (v : Var) → is_normal_type ((arguments args).types d v) ≡ true
types-normal args e d (var.Free n) = as_type-normal (slice_index_or args n (normal.Type unit)) (one-normal args n e)
types-normal args e d (var.Bound i) = refl

rows-normal : (args : List Normal) → are_normal args ≡ true → (d : ℕ) (v : Var) → all_normal_parts ((arguments args).rows d v) ≡ true
rows-normal args e d (var.Free n) = and-right (is_row (as_row (slice_index_or args n (normal.Type unit)))) (all_normal_parts (as_row (slice_index_or args n (normal.Type unit))))
    (as_row-normal (slice_index_or args n (normal.Type unit)) (one-normal args n e))
rows-normal args e d (var.Bound i) = refl

pub arguments-normal : (args : List Normal) → are_normal args ≡ true → PutsNormal (arguments args)
arguments-normal args e = record {
  types = types-normal args e;
  rows = rows-normal args e;
  maps = λ d v g h. and-right (is_row (mapped_row g ((arguments args).rows d v))) (all_normal_parts (mapped_row g ((arguments args).rows d v))) (mapped_row-normal g ((arguments args).rows d v) h);
}

pub arguments-drops : (args : List Normal) (d : ℕ) (v : Var) (row : List Part) (b : Bool) → are_normal args ≡ true → row ≡ (arguments args).rows d v → (IsTrue b ↔ (row ≡ [])) → Drops (arguments args) d v b
arguments-drops args d v row true n e h = λ f. ap (mapped_row f) (sym e ∙ h.0 refl)
arguments-drops args d v row false n e h = λ f. row-grows (put_type (arguments args) (suc d) f) ((arguments args).rows d v) (put_type-normal (arguments-normal args n) (suc d) f)
    (λ k. never (h.1 (e ∙ k))) where
      never : false ≡ true → ⊥
      never q = cc
