use Rattle.std.proofs.Common.{sym, ◌∙◌}
use Rattle.ur_keeper.proofs.Drafts.{copied-gone, copied-there}
use Rattle.ur_keeper.proofs.draft.copy_left.Goals as goal
use Rattle.ur_keeper.proofs.draft.copy_left.Goals.{then-not-is_gone+in_ok-copy+in_ok-push, else-not-is_gone}

pub loop-at-preserved : goal.loop-at-preserved
loop-at-preserved c =
    elim c.if-not-is_gone.branch [
      | then-not-is_gone+in_ok-copy+in_ok-push w ↦
          copied-there c.args.rows.now c.args.gone.now c.loop-at.at w.index-rows-at.result w.in_ok-copy.field-0 c.loop-at.copied c.if-not-is_gone.copied c.loop-at-test.true w.index-rows-at.is (sym c.is_gone.ensures ∙ w.if-not-is_gone.true) c.loop-at.invariant
          (w.copied-is ∙ w.in_ok-push.ensures.ok) w.in_ok-copy.ensures
      | else-not-is_gone w ↦
          copied-gone c.args.rows.now c.args.gone.now c.loop-at.at c.loop-at.copied c.if-not-is_gone.copied (sym c.is_gone.ensures ∙ w.if-not-is_gone.false) c.loop-at.invariant w.copied-is
    ]
