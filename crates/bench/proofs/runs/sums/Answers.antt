use Rattle.bench.proofs.Unstuck.{sums_are_safe}
use Rattle.bench.proofs.runs.sums.Goals as goal

pub call-requires : goal.call-requires
call-requires c = sums_are_safe _ _ c.requires
