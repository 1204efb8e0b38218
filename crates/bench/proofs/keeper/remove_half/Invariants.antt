use Rattle.std.proofs.Common.{◌*◌}
use Rattle.bench.specs.Rows.{HasRows}
use Rattle.bench.proofs.keeper.remove_half.Given as goal

abbrev pub invariant-loop-pair : goal.invariant-loop-pair
invariant-loop-pair l = HasRows (2 * l.pair) l.count l.keeper
