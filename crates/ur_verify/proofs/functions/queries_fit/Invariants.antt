-- The queries so far fit.
use Rattle.std.proofs.Common.{take, All}
use Rattle.ur_sql.specs.Typing.{QueryFits}
use Rattle.ur_verify.proofs.functions.queries_fit.Given as goal

abbrev pub invariant-loop-query : goal.invariant-loop-query
invariant-loop-query l = All (QueryFits l.code.schema) (take l.query-index l.query-items)
