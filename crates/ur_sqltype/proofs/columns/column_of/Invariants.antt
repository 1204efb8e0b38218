-- What is looked for is looked for among the columns that are left.
use Rattle.std.proofs.Common.{◌≡◌, drop}
use Rattle.ur_sqltype.specs.Scope.{named_from}
use Rattle.ur_sqltype.proofs.columns.column_of.Given as goal

abbrev pub invariant-loop-i : goal.invariant-loop-i
invariant-loop-i l = named_from (λ c. c.0) (λ c. c.1) l.name 0 l.columns ≡ named_from (λ c. c.0) (λ c. c.1) l.name l.i (drop l.i l.columns)
