use Rattle.std.proofs.Common.{sym, subst}
use Rattle.bench.specs.Running.{IsSum}
use Rattle.bench.proofs.Unstuck.{none_more, one_more}
use Rattle.bench.proofs.runs.sum.Goals as goal

pub loop-init : goal.loop-init
loop-init c = none_more

pub loop-preserved : goal.loop-preserved
loop-preserved c = subst IsSum (sym c.in_ok-sum.ensures) (one_more c.loop.sum c.loop.invariant)
