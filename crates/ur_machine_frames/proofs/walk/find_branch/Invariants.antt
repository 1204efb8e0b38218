use Rattle.std.proofs.Common.{◌≡◌}
use Rattle.ur_machine_frames.proofs.Branches.{Skips}
use Rattle.ur_machine_frames.proofs.walk.find_branch.Given as goal

abbrev pub invariant-loop-number : goal.invariant-loop-number
invariant-loop-number g l = record { same : l.value ≡ l.initial.value; skipped : Skips l.branches l.number l.value }
