use Rattle.bench.specs.Rows.{HasRows}
use Rattle.bench.proofs.keeper.fill.Given as goal

abbrev pub invariant-loop : goal.invariant-loop
invariant-loop l = HasRows 0 l.counter l.keeper
