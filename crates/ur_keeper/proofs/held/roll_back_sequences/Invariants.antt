-- The first ones are changed.
use Rattle.std.proofs.Common.{◌≡◌, ◌++◌, map, take, drop}
use Rattle.ur_keeper.specs.Sequences.{rolled_back_sequence}
use Rattle.ur_keeper.proofs.held.roll_back_sequences.Given as goal

abbrev pub invariant-loop-i : goal.invariant-loop-i
invariant-loop-i l = l.sequences.items ≡ map rolled_back_sequence (take l.i l.fn.sequences.items) ++ drop l.i l.fn.sequences.items
