use Rattle.std.proofs.Common.{◌≤ℤ◌, pos, All, take}
use Rattle.ur_keeper.proofs.held.are_low.Given as goal

abbrev pub invariant-loop-sequence : goal.invariant-loop-sequence
invariant-loop-sequence l = All (λ s. s.saved ≤ℤ pos 4611686018427387904) (take l.sequence-index l.sequence-items)
