use Rattle.std.proofs.Common.{◌≡◌, drop}
use Rattle.ur_sqltype.specs.Choice.{first_in}
use Rattle.ur_sqltype.specs.Query.{at_outside}
use Rattle.ur_sqltype.proofs.grouped.columns_outside.Given as goal

abbrev pub invariant-loop-i : goal.invariant-loop-i
invariant-loop-i l = first_in (λ c. at_outside l.group c.1) l.columns ≡ first_in (λ c. at_outside l.group c.1) (drop l.i l.columns)
