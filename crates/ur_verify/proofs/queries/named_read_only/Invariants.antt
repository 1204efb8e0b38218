-- The columns so far are among these.
use Rattle.std.proofs.Common.{take, All}
use Rattle.std.specs.Prelude.{Contains}
use Rattle.ur_verify.proofs.queries.named_read_only.Given as goal

abbrev pub invariant-loop-column : goal.invariant-loop-column
invariant-loop-column l = All (λ c. Contains l.group c.1) (take l.column-index l.columns)
