use Rattle.std.proofs.Common.{length}
use Rattle.ur_keeper.proofs.Drafts.{ClosesEnd}
use Rattle.ur_keeper.proofs.draft.close_end.Given as goal

abbrev pub invariant-loop-rows : goal.invariant-loop-rows
invariant-loop-rows l = ClosesEnd l.fn.rows.items l.fn.gone.items l.rows.items l.gone.items

abbrev pub decreases-loop-rows : goal.decreases-loop-rows
decreases-loop-rows l = length l.rows.items
