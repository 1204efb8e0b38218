use Rattle.std.proofs.Common.{All, take}
use Rattle.ur_machine_frames.specs.Unread.{Unread, BranchUnread}
use Rattle.ur_machine_frames.proofs.unread.+unread.Given as goal

abbrev pub invariant-are_unread-loop-term : goal.invariant-are_unread-loop-term
invariant-are_unread-loop-term l = All (Unread l.number) (take l.term-index l.terms)

abbrev pub invariant-are_branches_unread-loop-branch : goal.invariant-are_branches_unread-loop-branch
invariant-are_branches_unread-loop-branch l = All (BranchUnread l.number) (take l.branch-index l.branches)
