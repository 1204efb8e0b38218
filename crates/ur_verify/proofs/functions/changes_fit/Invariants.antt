-- The changes so far fit.
use Rattle.std.proofs.Common.{take, All}
use Rattle.ur_sql.specs.Typing.{ChangeFits}
use Rattle.ur_verify.proofs.functions.changes_fit.Given as goal

abbrev pub invariant-loop-change : goal.invariant-loop-change
invariant-loop-change l = All (ChangeFits l.code.schema) (take l.change-index l.change-items)
