use Rattle.std.proofs.Common.{◌-◌}
use Rattle.ur_rows_reduce.proofs.Halving.{Between}
use Rattle.ur_rows_reduce.proofs.place.place_in.Given as goal

abbrev pub invariant-halves : goal.invariant-halves
invariant-halves l = Between l.part l.row l.low l.high

abbrev pub decreases-halves : goal.decreases-halves
decreases-halves l = l.high - l.low
