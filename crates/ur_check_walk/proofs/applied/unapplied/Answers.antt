use Rattle.std.proofs.Common.{ap, ap₂, sym, ◌∙◌}
use Rattle.ur_syntax.specs.declared.exp.ExpForm.TheVariants as e
use Rattle.ur_check_walk.specs.Applying.{forms_in, no_argument}
use Rattle.ur_check_walk.proofs.Applying.{more-forms, not-applied, unapplies-more}
use Rattle.ur_check_walk.proofs.applied.unapplied.Goals as goal

pub loop-argument-init : goal.loop-argument-init
loop-argument-init c = λ y ys u. u

pub loop-argument-preserved : goal.loop-argument-preserved
loop-argument-preserved c =
    unapplies-more c.args.e.now.form (forms_in c.args.args.now) (forms_in c.loop-argument.args) c.loop-argument.at.now.form c.get-at.result.now c.get.result.now (forms_in c.push.new.self) c.loop-argument.invariant
    (c.in-App.is ∙ ap₂ e.App (sym c.get-at.ensures) (sym c.get.ensures)) (more-forms c.push.new.self c.loop-argument.args c.get.result c.in_ok-push-in-App.ensures.ok)

pub returns-in_default-clause-head : goal.returns-in_default-clause-head
returns-in_default-clause-head c = not-applied c.loop-argument.at.now.form c.in_default.not-App

pub returns-in_default-clause-applied : goal.returns-in_default-clause-applied
returns-in_default-clause-applied c = c.loop-argument.invariant _ _ no_argument
