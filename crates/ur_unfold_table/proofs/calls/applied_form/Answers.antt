use Rattle.std.proofs.Common.{Some, refl, subst, sym}
use Rattle.ur_tree.specs.declared.exp.Exp.{Exp}
use Rattle.ur_tree.specs.declared.closed.Static.{out-Static}
use Rattle.ur_source.specs.Items.{static_in, applied_form}
use Rattle.ur_source.specs.Source.{source_of}
use Rattle.ur_unfold_static.specs.Scopes.{MayBeAt}
use Rattle.ur_unfold_pieces.specs.Forming.{FormedAs}
use Rattle.ur_unfold_pieces.proofs.Staying.{instances_stay, moves_of, moves_then, scope_stays, whole_stays}
use Rattle.ur_unfold_table.specs.Applying.{IsApplied}
use Rattle.ur_unfold_table.proofs.Forming.{none_formed, exit}
use Rattle.ur_unfold_table.proofs.Applies.{function_of, lambda_of, nothing_applied}
use Rattle.ur_unfold_table.proofs.Calling.{apply_none, apply_some}
use Rattle.ur_unfold_table.proofs.calls.applied_form.Goals as goal

pub returns-in_err-static_in-clause-form : goal.returns-in_err-static_in-clause-form
returns-in_err-static_in-clause-form c = λ scope at whole. exit c.args.table.now c.static_in.new.table _ c.from_residual.result c.in_err-static_in.field-0.0 c.from_residual.ensures.1 (c.in_err-static_in.ensures.made scope at whole)

pub returns-in_err-static_in-clause-moves : goal.returns-in_err-static_in-clause-moves
returns-in_err-static_in-clause-moves c = moves_of c.args.table.now c.static_in.new.table c.in_err-static_in.ensures.stays

pub returns-in-None-clause-form : goal.returns-in-None-clause-form
returns-in-None-clause-form c = λ scope at whole.
    apply_none c.args.table.now c.static_in.new.table c.in_ok-static_in.ensures.stays c.args.scope scope at whole c.args.g.now c.args.args.now c.in_ok-static_in.field-0 (subst (λ (e : Exp). MayBeAt c.static_in.new.table.closing.statics c.in_ok-static_in.field-0 (static_in (source_of c.args.table.now.typed.now) scope e)) c.get.ensures (c.in_ok-static_in.ensures.made scope at whole)) c.static_in.new.table c.nothing.result c.in-None.is (none_formed c.args.table.now c.static_in.new.table (instances_stay c.args.table.now c.static_in.new.table c.in_ok-static_in.ensures.stays whole) c.nothing.result c.nothing.ensures)

pub returns-in-None-clause-moves : goal.returns-in-None-clause-moves
returns-in-None-clause-moves c = moves_of c.args.table.now c.static_in.new.table c.in_ok-static_in.ensures.stays

pub returns-in-Function-clause-form : goal.returns-in-Function-clause-form
returns-in-Function-clause-form c = λ scope at whole.
    apply_some c.args.table.now c.static_in.new.table c.in_ok-static_in.ensures.stays c.args.scope scope at whole c.args.g.now c.args.args.now c.in_ok-static_in.field-0 (subst (λ (e : Exp). MayBeAt c.static_in.new.table.closing.statics c.in_ok-static_in.field-0 (static_in (source_of c.args.table.now.typed.now) scope e)) c.get.ensures (c.in_ok-static_in.ensures.made scope at whole)) c.call_form.new.table c.call_form.result c.in-Some.at c.in-Some.is (λ s there.
    let one = function_of c.static_in.new.table.closing c.in-Function.k c.in-Function.cons (out-Static s) (subst (λ what. IsApplied c.static_in.new.table.closing what s) c.in-Function.is (c.in_ok-k-in-Some.ensures s there)) in
    subst (λ y. FormedAs c.static_in.new.table c.call_form.new.table (applied_form (source_of c.static_in.new.table.typed.now) scope c.args.args.now y) c.call_form.result) one.2
    (c.call_form.ensures.form scope one.0 (scope_stays c.args.table.now c.static_in.new.table c.in_ok-static_in.ensures.stays.widens c.args.scope scope at) (whole_stays c.args.table.now c.static_in.new.table c.in_ok-static_in.ensures.stays whole) one.1))

pub returns-in-Function-clause-moves : goal.returns-in-Function-clause-moves
returns-in-Function-clause-moves c = moves_then c.args.table.now c.static_in.new.table c.call_form.new.table (moves_of c.args.table.now c.static_in.new.table c.in_ok-static_in.ensures.stays) c.call_form.ensures.moves

pub returns-in-Lambda-clause-form : goal.returns-in-Lambda-clause-form
returns-in-Lambda-clause-form c = λ scope at whole.
    apply_some c.args.table.now c.static_in.new.table c.in_ok-static_in.ensures.stays c.args.scope scope at whole c.args.g.now c.args.args.now c.in_ok-static_in.field-0 (subst (λ (e : Exp). MayBeAt c.static_in.new.table.closing.statics c.in_ok-static_in.field-0 (static_in (source_of c.args.table.now.typed.now) scope e)) c.get.ensures (c.in_ok-static_in.ensures.made scope at whole)) c.lambda_form.new.table c.lambda_form.result c.in-Some.at c.in-Some.is (λ s there.
    let one = lambda_of c.static_in.new.table.closing c.in-Lambda.lambda c.in-Lambda.known (out-Static s) (subst (λ what. IsApplied c.static_in.new.table.closing what s) c.in-Lambda.is (c.in_ok-k-in-Some.ensures s there)) in
    subst (λ y. FormedAs c.static_in.new.table c.lambda_form.new.table (applied_form (source_of c.static_in.new.table.typed.now) scope c.args.args.now y) c.lambda_form.result) one.4
    (c.lambda_form.ensures.form scope one.0 one.1 (scope_stays c.args.table.now c.static_in.new.table c.in_ok-static_in.ensures.stays.widens c.args.scope scope at) (whole_stays c.args.table.now c.static_in.new.table c.in_ok-static_in.ensures.stays whole) (one.2, one.3)))

pub returns-in-Lambda-clause-moves : goal.returns-in-Lambda-clause-moves
returns-in-Lambda-clause-moves c = moves_then c.args.table.now c.static_in.new.table c.lambda_form.new.table (moves_of c.args.table.now c.static_in.new.table c.in_ok-static_in.ensures.stays) (moves_of c.static_in.new.table c.lambda_form.new.table c.lambda_form.ensures.stays)

pub returns-in-Nothing-clause-form : goal.returns-in-Nothing-clause-form
returns-in-Nothing-clause-form c = λ scope at whole.
    apply_some c.args.table.now c.static_in.new.table c.in_ok-static_in.ensures.stays c.args.scope scope at whole c.args.g.now c.args.args.now c.in_ok-static_in.field-0 (subst (λ (e : Exp). MayBeAt c.static_in.new.table.closing.statics c.in_ok-static_in.field-0 (static_in (source_of c.args.table.now.typed.now) scope e)) c.get.ensures (c.in_ok-static_in.ensures.made scope at whole)) c.static_in.new.table c.nothing-in-Nothing.result c.in-Some.at c.in-Some.is (λ s there.
    subst (λ f. FormedAs c.static_in.new.table c.static_in.new.table f c.nothing-in-Nothing.result) (sym (nothing_applied c.static_in.new.table.closing (source_of c.static_in.new.table.typed.now) scope c.args.args.now (out-Static s) (subst (λ what. IsApplied c.static_in.new.table.closing what s) c.in-Nothing.is (c.in_ok-k-in-Some.ensures s there))))
    (none_formed c.static_in.new.table c.static_in.new.table refl c.nothing-in-Nothing.result c.nothing-in-Nothing.ensures))

pub returns-in-Nothing-clause-moves : goal.returns-in-Nothing-clause-moves
returns-in-Nothing-clause-moves c = moves_of c.args.table.now c.static_in.new.table c.in_ok-static_in.ensures.stays

pub returns-in_err-k-in-Some-clause-form : goal.returns-in_err-k-in-Some-clause-form
returns-in_err-k-in-Some-clause-form c = λ scope at whole.
    let there : MayBeAt c.static_in.new.table.closing.statics c.in_ok-static_in.field-0 (static_in (source_of c.args.table.now.typed.now) scope c.args.g.now) =
    subst (λ (e : Exp). MayBeAt c.static_in.new.table.closing.statics c.in_ok-static_in.field-0 (static_in (source_of c.args.table.now.typed.now) scope e)) c.get.ensures (c.in_ok-static_in.ensures.made scope at whole) in
    let one : MayBeAt c.static_in.new.table.closing.statics (Some c.in-Some.at) (static_in (source_of c.args.table.now.typed.now) scope c.args.g.now) =
    subst (λ p. MayBeAt c.static_in.new.table.closing.statics p (static_in (source_of c.args.table.now.typed.now) scope c.args.g.now)) c.in-Some.is there in
    exit c.args.table.now c.static_in.new.table _ c.from_residual-in_err-k-in-Some.result c.in_err-k-in-Some.field-0.0 c.from_residual-in_err-k-in-Some.ensures.1 (c.in_err-k-in-Some.ensures one.0 one.1)

pub returns-in_err-k-in-Some-clause-moves : goal.returns-in_err-k-in-Some-clause-moves
returns-in_err-k-in-Some-clause-moves c = moves_of c.args.table.now c.static_in.new.table c.in_ok-static_in.ensures.stays
