use Rattle.bench.specs.Running.{IsSum}
use Rattle.bench.proofs.runs.sum.Given as goal

abbrev pub invariant-loop : goal.invariant-loop
invariant-loop l = IsSum l.sum
