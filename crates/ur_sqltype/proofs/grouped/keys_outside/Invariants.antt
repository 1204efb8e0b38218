use Rattle.std.proofs.Common.{◌≡◌, drop}
use Rattle.ur_sqltype.specs.Choice.{first_in}
use Rattle.ur_sqltype.specs.Query.{key_outside}
use Rattle.ur_sqltype.proofs.grouped.keys_outside.Given as goal

abbrev pub invariant-loop-i : goal.invariant-loop-i
invariant-loop-i l = first_in (key_outside l.group) l.keys ≡ first_in (key_outside l.group) (drop l.i l.keys)
