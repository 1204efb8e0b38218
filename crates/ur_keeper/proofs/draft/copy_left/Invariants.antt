use Rattle.std.proofs.Common.{◌≡◌, take}
use Rattle.ur_keeper.specs.Drafts.{left}
use Rattle.ur_keeper.proofs.draft.copy_left.Given as goal

abbrev pub invariant-loop-at : goal.invariant-loop-at
invariant-loop-at l = l.copied ≡ left (take l.at l.rows) l.gone
