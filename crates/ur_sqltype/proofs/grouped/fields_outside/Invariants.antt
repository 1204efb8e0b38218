use Rattle.std.proofs.Common.{◌≡◌, drop}
use Rattle.ur_sqltype.specs.Choice.{first_in}
use Rattle.ur_sqltype.specs.Query.{field_outside}
use Rattle.ur_sqltype.proofs.grouped.fields_outside.Given as goal

abbrev pub invariant-loop-i : goal.invariant-loop-i
invariant-loop-i l = first_in (field_outside l.group) l.fields ≡ first_in (field_outside l.group) (drop l.i l.fields)
