use Rattle.std.proofs.Common.{[], ◌∷◌, ◌++◌, map, refl, ap, ◌∙◌}
use Rattle.ur_source.specs.Items.{value_args}
use Rattle.ur_unfold_static.proofs.Standing.{stands_grown}
use Rattle.ur_unfold_pieces.specs.Told.{told, exp, exps_told}
use Rattle.ur_unfold_pieces.proofs.Staying.{instances_stay, stays_then}
use Rattle.ur_unfold_table.proofs.Telling.{told_last}
use Rattle.ur_unfold_table.proofs.Forming.{none_formed, exit}
use Rattle.ur_unfold_table.proofs.Calling.{found_args, lambda_dynamic, lambda_formed}
use Rattle.ur_unfold_table.proofs.calls.lambda_form.Goals as goal

pub returns-in_err-fixed_args-clause-form : goal.returns-in_err-fixed_args-clause-form
returns-in_err-fixed_args-clause-form c = λ around cs fs at whole stands. exit c.args.table.now c.fixed_args.new.table _ c.from_residual.result c.in_err-fixed_args.field-0.0 c.from_residual.ensures.1 (c.in_err-fixed_args.ensures.made around at whole)

pub returns-in-None-clause-form : goal.returns-in-None-clause-form
returns-in-None-clause-form c = λ around cs fs at whole stands.
    lambda_dynamic c.args.table.now c.args.scope around at whole c.args.args.now c.args.lambda.params.now c.args.lambda.body.now cs fs c.fixed_args.new.table c.in_ok-fixed_args.ensures.stays c.in_ok-fixed_args.field-0 (c.in_ok-fixed_args.ensures.made around at whole) c.nothing.result c.in-None.is (none_formed c.args.table.now c.fixed_args.new.table (instances_stay c.args.table.now c.fixed_args.new.table c.in_ok-fixed_args.ensures.stays whole) c.nothing.result c.nothing.ensures)

pub returns-in_err-within-in-Some-clause-form : goal.returns-in_err-within-in-Some-clause-form
returns-in_err-within-in-Some-clause-form c = λ around cs fs at whole stands.
    let are = found_args c.args.table.now c.args.scope around c.args.args.now c.args.lambda.params.now c.fixed_args.new.table c.in_ok-fixed_args.field-0 c.in-Some.fixed c.in-Some.is (c.in_ok-fixed_args.ensures.made around at whole) in
    exit c.args.table.now c.body_scope.new.table _ c.from_residual-in_err-within-in-Some.result c.in_err-within-in-Some.field-0.0 c.from_residual-in_err-within-in-Some.ensures.1 (c.in_err-within-in-Some.ensures.scope cs fs are.0 (stands_grown c.args.table.now.closing c.fixed_args.new.table.closing c.in_ok-fixed_args.ensures.stays.widens.closing c.args.known cs fs stands) are.1)

pub returns-in_err-within-in-Some-clause-stays : goal.returns-in_err-within-in-Some-clause-stays
returns-in_err-within-in-Some-clause-stays c = stays_then c.args.table.now c.fixed_args.new.table c.body_scope.new.table c.in_ok-fixed_args.ensures.stays c.in_err-within-in-Some.ensures.stays

pub returns-in_err-push_values-in-Some-clause-form : goal.returns-in_err-push_values-in-Some-clause-form
returns-in_err-push_values-in-Some-clause-form c = λ around cs fs at whole stands. exit c.args.table.now c.body_scope.new.table _ c.from_residual-in_err-push_values-in-Some.result c.in_err-push_values-in-Some.field-0.0 c.from_residual-in_err-push_values-in-Some.ensures.1 c.in_err-push_values-in-Some.ensures

pub returns-in_err-push_values-in-Some-clause-stays : goal.returns-in_err-push_values-in-Some-clause-stays
returns-in_err-push_values-in-Some-clause-stays c = stays_then c.args.table.now c.fixed_args.new.table c.body_scope.new.table c.in_ok-fixed_args.ensures.stays c.in_ok-within-in-Some.ensures.stays

pub returns-in_err-push-in-Some-clause-stays : goal.returns-in_err-push-in-Some-clause-stays
returns-in_err-push-in-Some-clause-stays c = stays_then c.args.table.now c.fixed_args.new.table c.body_scope.new.table c.in_ok-fixed_args.ensures.stays c.in_ok-within-in-Some.ensures.stays

pub returns-in_ok-push-in-Some-clause-stays : goal.returns-in_ok-push-in-Some-clause-stays
returns-in_ok-push-in-Some-clause-stays c = stays_then c.args.table.now c.fixed_args.new.table c.body_scope.new.table c.in_ok-fixed_args.ensures.stays c.in_ok-within-in-Some.ensures.stays

pub returns-in_ok-push-in-Some-clause-form : goal.returns-in_ok-push-in-Some-clause-form
returns-in_ok-push-in-Some-clause-form c = λ around cs fs at whole stands.
    lambda_formed c.args.table.now c.args.scope around at whole c.args.args.now c.args.lambda.params.now c.args.lambda.body.now cs fs c.fixed_args.new.table c.in_ok-fixed_args.ensures.stays c.in_ok-fixed_args.field-0 (c.in_ok-fixed_args.ensures.made around at whole) c.in-Some.fixed c.in-Some.is c.body_scope.new.table c.in_ok-within-in-Some.ensures.stays c.in_ok-within-in-Some.within
    (λ gs are. c.in_ok-within-in-Some.ensures.scope cs fs gs (stands_grown c.args.table.now.closing c.fixed_args.new.table.closing c.in_ok-fixed_args.ensures.stays.widens.closing c.args.known cs fs stands) are) _ refl
    (told_last c.push_values.new.parts c.push.new.self _ c.in_ok-push-in-Some.ensures.ok
    ∙ ap (λ l. l ++ exp c.in_ok-within-in-Some.within c.args.lambda.body.now ∷ []) (c.in_ok-push_values-in-Some.ensures ∙ ap (λ l. map told l ++ exps_told c.args.scope (value_args c.args.lambda.params.now c.args.args.now)) c.new-parts.ensures))
