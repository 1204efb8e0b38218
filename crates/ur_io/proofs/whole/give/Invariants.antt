use Rattle.std.proofs.Common.{◌≡◌, ◌≤◌, ◌-◌, length, take, true}
use Rattle.ur_io.specs.Traffic.{after_write}
use Rattle.ur_io.proofs.Pieces.{Added}
use Rattle.ur_io.proofs.whole.give.Given as goal

abbrev pub invariant-loop-given : goal.invariant-loop-given
invariant-loop-given g l = record {
  within : l.given ≤ length l.bytes;
  current : g.W.Wire.is_current l.wire ≡ true;
  same : g.W.Wire.faults l.wire ≡ g.W.Wire.faults l.initial.wire;
  told : Added after_write (g.W.Wire.told l.initial.wire) (take l.given l.bytes) (g.W.Wire.told l.wire);
}

abbrev pub decreases-loop-given : goal.decreases-loop-given
decreases-loop-given g l = length l.bytes - l.given
