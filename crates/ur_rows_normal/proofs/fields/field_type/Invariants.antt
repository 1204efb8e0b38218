use Rattle.std.proofs.Common.{◌≡◌, drop}
use Rattle.ur_rows.specs.Types.{field_type}
use Rattle.ur_rows_normal.proofs.fields.field_type.Given as goal

abbrev pub invariant-loop-i : goal.invariant-loop-i
invariant-loop-i l = field_type l.l (drop l.i l.parts) ≡ field_type l.l l.parts
