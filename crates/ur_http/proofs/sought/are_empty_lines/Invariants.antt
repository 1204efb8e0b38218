use Rattle.std.proofs.Common.{length}
use Rattle.ur_http.proofs.Fronts.{PastEmpty}
use Rattle.ur_http.proofs.sought.are_empty_lines.Given as goal

abbrev pub invariant-loop-rest : goal.invariant-loop-rest
invariant-loop-rest l = PastEmpty l.bytes l.left

abbrev pub decreases-loop-rest : goal.decreases-loop-rest
decreases-loop-rest l = length l.left
