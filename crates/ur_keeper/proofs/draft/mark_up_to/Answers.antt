use Rattle.std.proofs.Common.{ap, ◌∙◌}
use Rattle.ur_keeper.specs.Drafts.{left}
use Rattle.ur_keeper.proofs.Drafts.{left-marked}
use Rattle.ur_keeper.proofs.draft.mark_up_to.Goals as goal

pub loop-gone-preserved : goal.loop-gone-preserved
loop-gone-preserved c = λ rows. ap (left rows) c.in_ok-push.ensures.items ∙ left-marked rows c.loop-gone.gone.items ∙ c.loop-gone.invariant rows
