use Rattle.std.proofs.Common.{◌≤◌}
use Rattle.bench.specs.Rows.{HasRows}
use Rattle.bench.proofs.keeper.replace_all.Given as goal

abbrev pub invariant-loop-number : goal.invariant-loop-number
invariant-loop-number l = HasRows 0 l.count l.keeper
