use Rattle.std.proofs.Common.{◌≡◌, ◌-◌, suc, arith, sym, ◌∙◌}
use Rattle.ur_source.specs.Items.{folding, form_of}
use Rattle.ur_source.specs.Source.{source_of}
use Rattle.ur_unfold_pieces.proofs.Staying.{stays_so}
use Rattle.ur_unfold_table.proofs.Forming.{exit}
use Rattle.ur_unfold_table.proofs.Stepping.{next_step}
use Rattle.ur_unfold_table.proofs.Folding.{start_formed, step_formed}
use Rattle.ur_unfold_table.proofs.folds.folding_form.Goals as goal

pub returns-then-left-eq0-clause-form : goal.returns-then-left-eq0-clause-form
returns-then-left-eq0-clause-form c = λ around ks at left whole.
    start_formed c.args.table.now (source_of c.args.table.now.typed.now) c.args.scope c.args.steps c.args.left c.args.step.now c.args.start.now around ks c.one.result c.if-left-eq0.true at left c.one.ensures

pub returns-then-left-eq0-clause-stays : goal.returns-then-left-eq0-clause-stays
returns-then-left-eq0-clause-stays c = stays_so c.args.table.now

pub returns-in-None-clause-form : goal.returns-in-None-clause-form
returns-in-None-clause-form c = λ around ks at left whole. tt

pub returns-in-None-clause-stays : goal.returns-in-None-clause-stays
returns-in-None-clause-stays c = stays_so c.args.table.now

pub returns-in_err-within-in-Some-clause-form : goal.returns-in_err-within-in-Some-clause-form
returns-in_err-within-in-Some-clause-form c = λ around ks at left whole.
    let more : c.args.left ≡ suc (c.args.left - 1) = omega (arith, c.if-left-eq0.false) in
    let next = next_step c.args.table.now c.args.steps c.args.left (c.args.left - 1) c.in-Some.at ks more (sym c.step_at.ensures ∙ c.in-Some.is) left in
    exit c.args.table.now c.step_scope.new.table (form_of (source_of c.args.table.now.typed.now) (folding around c.args.step.now c.args.start.now ks)) c.from_residual.result c.in_err-within-in-Some.field-0.0 c.from_residual.ensures.1
    (c.in_err-within-in-Some.ensures.scope around next.first at next.here)

pub returns-in_ok-within-in-Some-clause-form : goal.returns-in_ok-within-in-Some-clause-form
returns-in_ok-within-in-Some-clause-form c = λ around ks at left whole.
    let more : c.args.left ≡ suc (c.args.left - 1) = omega (arith, c.if-left-eq0.false) in
    step_formed c.args.table.now c.step_scope.new.table c.in_ok-within-in-Some.ensures.stays whole (source_of c.args.table.now.typed.now) c.args.scope c.args.steps c.args.left (c.args.left - 1) c.in_ok-within-in-Some.within
    c.args.step.now c.args.start.now around ks c.in-Some.at c.two.result more at left (sym c.step_at.ensures ∙ c.in-Some.is) (λ k is. c.in_ok-within-in-Some.ensures.scope around k at is) c.two.ensures
