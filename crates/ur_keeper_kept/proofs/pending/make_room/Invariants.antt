use Rattle.std.proofs.Common.{◌≡◌, ◌+◌, ◌-◌, ℕ, pos, length, get_or}
use Rattle.ur_keeper_kept.proofs.pending.make_room.Given as goal

abbrev pub invariant-loop-numbers : goal.invariant-loop-numbers
invariant-loop-numbers l = (q : ℕ) → get_or l.numbers q (pos 0) ≡ get_or l.fn.numbers q (pos 0)

abbrev pub decreases-loop-numbers : goal.decreases-loop-numbers
decreases-loop-numbers l = (l.place + 1) - length l.numbers
