use Rattle.std.proofs.Common.{◌≡◌, map, take}
use Rattle.ur_keeper.specs.Sequences.{rolled_back_sequence}
use Rattle.ur_keeper.proofs.held.saved_sequences.Given as goal

abbrev pub invariant-loop-sequence : goal.invariant-loop-sequence
invariant-loop-sequence l = l.all.items ≡ map rolled_back_sequence (take l.sequence-index l.sequence-items)
