use Rattle.ur_keeper.proofs.Drafts.{Closes}
use Rattle.ur_keeper.proofs.draft.close_up.Given as goal

abbrev pub invariant-loop-at : goal.invariant-loop-at
invariant-loop-at l = Closes l.fn.rows.items l.gone.items l.rows.items l.kept l.at
