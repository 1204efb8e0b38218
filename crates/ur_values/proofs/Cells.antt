-- The value in a column, Absent past the end of the row.
use Rattle.std.proofs.Common.{◌≡◌, ℕ, Option, Some, None, ap, sym, ◌∙◌, unwrap_or}
use Rattle.std.specs.Prelude.{slice_get, slice_index_or}
use Rattle.std.proofs.lemmas.Option.{unwrap_or-slice_get}
use Rattle.ur_values.specs.declared.value.Value.{Value}
use Rattle.ur_values.specs.declared.value.Value.TheVariants as v
use Rattle.ur_values.specs.Store.{Row}

pub no-cell : (row : Row) (c : ℕ) → slice_get row c ≡ None → v.Absent ≡ slice_index_or row c v.Absent
no-cell row c e = ap (λ (o : Option Value). unwrap_or o v.Absent) (sym e) ∙ unwrap_or-slice_get row c v.Absent

pub a-cell : (row : Row) (c : ℕ) (x : Value) → slice_get row c ≡ Some x → x ≡ slice_index_or row c v.Absent
a-cell row c x e = ap (λ (o : Option Value). unwrap_or o v.Absent) (sym e) ∙ unwrap_or-slice_get row c v.Absent
