use Rattle.std.proofs.Common.{ℕ, Option, subst}
use Rattle.ur_source.specs.Items.{exp, form_of, static_in}
use Rattle.ur_source.specs.Source.{source_of}
use Rattle.ur_unfold_static.specs.Scopes.{MayBeAt}
use Rattle.ur_unfold_pieces.proofs.Staying.{stays_then, scope_stays, whole_stays}
use Rattle.ur_unfold_table.proofs.Forming.{exit}
use Rattle.ur_unfold_table.proofs.Folding.{static_fold, value_fold}
use Rattle.ur_unfold_table.proofs.folds.fold_form.Goals as goal

pub returns-in_err-number-clause-form : goal.returns-in_err-number-clause-form
returns-in_err-number-clause-form c = λ of acc is around at whole.
    exit c.args.table.now c.static_in.new.table (form_of (source_of c.args.table.now.typed.now) (exp around c.args.e.now))
    c.from_residual.result c.in_err-number.field-0.0 c.from_residual.ensures.1 (c.in_err-number.ensures.made around at whole)

pub returns-in-Some-clause-form : goal.returns-in-Some-clause-form
returns-in-Some-clause-form c = λ of acc is around at whole.
    static_fold c.args.table.now c.static_in.new.table c.args.e.now c.args.step.now c.args.start.now of acc c.args.row.now is around c.in-Some.number c.one.result c.static_in.ensures.stays whole
    (subst (λ (o : Option ℕ). MayBeAt c.static_in.new.table.closing.statics o (static_in (source_of c.args.table.now.typed.now) around c.args.e.now)) c.in-Some.is (c.in_ok-number.ensures.made around at whole))
    c.one.ensures

pub returns-in-None-clause-form : goal.returns-in-None-clause-form
returns-in-None-clause-form c = λ of acc is around at whole.
    let stays = c.static_in.ensures.stays in
    value_fold c.args.table.now c.value_fold.new.table c.args.e.now c.args.step.now c.args.start.now of acc c.args.row.now is around c.static_in.new.table c.value_fold.result c.get.result.now c.get-in-None.result.now
    c.get.ensures c.get-in-None.ensures stays whole
    (subst (λ (o : Option ℕ). MayBeAt c.static_in.new.table.closing.statics o (static_in (source_of c.args.table.now.typed.now) around c.args.e.now)) c.in-None.is (c.in_ok-number.ensures.made around at whole))
    (c.value_fold.ensures.form around (scope_stays c.args.table.now c.static_in.new.table stays.widens c.args.scope around at) (whole_stays c.args.table.now c.static_in.new.table stays whole))

pub returns-in-None-clause-stays : goal.returns-in-None-clause-stays
returns-in-None-clause-stays c = stays_then c.args.table.now c.static_in.new.table c.value_fold.new.table c.static_in.ensures.stays c.value_fold.ensures.stays
