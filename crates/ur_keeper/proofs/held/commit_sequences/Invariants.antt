-- The first ones are changed.
use Rattle.std.proofs.Common.{◌≡◌, ◌++◌, map, take, drop}
use Rattle.ur_keeper.specs.Sequences.{committed_sequence}
use Rattle.ur_keeper.proofs.held.commit_sequences.Given as goal

abbrev pub invariant-loop-i : goal.invariant-loop-i
invariant-loop-i l = l.sequences.items ≡ map committed_sequence (take l.i l.fn.sequences.items) ++ drop l.i l.fn.sequences.items
