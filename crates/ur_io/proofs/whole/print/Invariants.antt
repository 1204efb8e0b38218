use Rattle.std.proofs.Common.{◌≤◌, ◌-◌, ◌++◌, ℕ, List, length, take}
use Rattle.ur_io.proofs.Pieces.{Added}
use Rattle.ur_io.proofs.whole.print.Given as goal

abbrev pub invariant-loop-given : goal.invariant-loop-given
invariant-loop-given g l = record {
  within : l.given ≤ length l.text;
  later : g.O.Sink.faults l.initial.out ≤ g.O.Sink.faults l.out;
  told : Added (λ (given bytes : List ℕ). given ++ bytes) (g.O.Sink.told l.initial.out) (take l.given l.text) (g.O.Sink.told l.out);
}

abbrev pub decreases-loop-given : goal.decreases-loop-given
decreases-loop-given g l = length l.text - l.given
