use Rattle.std.proofs.Common.{Option, List, subst}
use Rattle.ur_meaning.specs.Form.{same_form}
use Rattle.ur_source.specs.Reading.{fold_steps}
use Rattle.ur_source.specs.Items.{folding, form_with}
use Rattle.ur_unfold_static.specs.declared.node.Step.{Step}
use Rattle.ur_unfold_static.specs.Scopes.{StepsMayBe}
use Rattle.ur_unfold_pieces.proofs.Staying.{stays_then}
use Rattle.ur_unfold_table.proofs.Forming.{exit}
use Rattle.ur_unfold_table.proofs.Folding.{no_fold, fold_formed}
use Rattle.ur_unfold_table.proofs.folds.value_fold.Goals as goal

pub returns-in_err-steps_in-clause-form : goal.returns-in_err-steps_in-clause-form
returns-in_err-steps_in-clause-form c = λ around at whole.
    exit c.args.table.now c.steps_in.new.table (form_with (fold_steps around.cons c.args.row.now) (λ ks. same_form (folding around c.args.step.now c.args.start.now ks)))
    c.from_residual.result c.in_err-steps_in.field-0.0 c.from_residual.ensures.1 (c.in_err-steps_in.ensures.steps around at)

pub returns-in-None-clause-form : goal.returns-in-None-clause-form
returns-in-None-clause-form c = λ around at whole.
    no_fold c.args.table.now c.steps_in.new.table c.steps_in.ensures.stays whole c.args.step.now c.args.start.now around (fold_steps around.cons c.args.row.now) c.nothing.result
    (subst (λ (o : Option (List Step)). StepsMayBe c.steps_in.new.table.closing o (fold_steps around.cons c.args.row.now)) c.in-None.is (c.in_ok-steps_in.ensures.steps around at)) c.nothing.ensures

pub returns-in-Some-clause-form : goal.returns-in-Some-clause-form
returns-in-Some-clause-form c = λ around at whole.
    fold_formed c.args.table.now c.steps_in.new.table c.fold_over.new.table c.steps_in.ensures.stays c.fold_over.ensures.stays whole c.args.scope c.args.step.now c.args.start.now around c.in-Some.steps
    (fold_steps around.cons c.args.row.now) c.fold_over.result at
    (subst (λ (o : Option (List Step)). StepsMayBe c.steps_in.new.table.closing o (fold_steps around.cons c.args.row.now)) c.in-Some.is (c.in_ok-steps_in.ensures.steps around at)) c.fold_over.ensures.form

pub returns-in-Some-clause-stays : goal.returns-in-Some-clause-stays
returns-in-Some-clause-stays c = stays_then c.args.table.now c.steps_in.new.table c.fold_over.new.table c.steps_in.ensures.stays c.fold_over.ensures.stays
