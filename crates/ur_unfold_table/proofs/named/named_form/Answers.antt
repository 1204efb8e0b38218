use Rattle.std.proofs.Common.{refl, sym, ap, subst, ◌∙◌, ℕ, List, Option, Some, map}
use Rattle.std.specs.Option.{option_copied}
use Rattle.ur_rows.specs.Put.{instance}
use Rattle.ur_meaning.specs.Form.{call_form}
use Rattle.ur_source.specs.Items.{exps, value_args, fixed_args, static_in}
use Rattle.ur_source.specs.Source.{source_of}
use Rattle.ur_unfold_static.proofs.Standing.{statics_grown}
use Rattle.ur_meaning.proofs.Going.{exit}
use Rattle.ur_unfold_pieces.specs.Forming.{FormedAs}
use Rattle.ur_unfold_pieces.proofs.Staying.{instances_stay, stays_so, stays_then, scope_stays, whole_stays, moves_then, moves_of}
use Rattle.ur_unfold_table.specs.Applying.{AreMayBeAt}
use Rattle.ur_unfold_table.proofs.Forming.{exit as form_exit}
use Rattle.ur_unfold_table.proofs.Naming.{cons_halt, named_instance, no_function, no_arguments, with_arguments, key_called}
use Rattle.ur_unfold_table.proofs.named.named_form.Goals as goal

pub returns-in-None-clause-form : goal.returns-in-None-clause-form
returns-in-None-clause-form c = λ around at whole.
    no_function (source_of c.args.table.now.typed.now) around c.args.k c.args.cons.now c.args.args.now c.args.table.now c.args.table.now c.nothing.result refl
    (sym c.get.ensures.value ∙ ap option_copied c.in-None.is) c.nothing.ensures

pub returns-in_err-fixed_args-in-Some-clause-form : goal.returns-in_err-fixed_args-in-Some-clause-form
returns-in_err-fixed_args-in-Some-clause-form c = λ around at whole. form_exit c.args.table.now c.fixed_args.new.table _ c.from_residual.result c.in_err-fixed_args-in-Some.field-0.0 c.from_residual.ensures.1 (c.in_err-fixed_args-in-Some.ensures.made around at whole)

pub returns-in-None-2-clause-form : goal.returns-in-None-2-clause-form
returns-in-None-2-clause-form c = λ around at whole.
    no_arguments (source_of c.args.table.now.typed.now) around c.args.k c.args.cons.now c.args.args.now c.args.table.now c.fixed_args.new.table c.nothing-in-None-2.result c.in-Some.function.now
    (instances_stay c.args.table.now c.fixed_args.new.table c.in_ok-fixed_args-in-Some.ensures.stays whole) (sym c.get.ensures.value ∙ ap option_copied c.in-Some.is)
    (subst (λ (o : Option (List ℕ)). AreMayBeAt c.fixed_args.new.table.closing.statics o (fixed_args (static_in (source_of c.args.table.now.typed.now) around) c.in-Some.function.now.params c.args.args.now)) c.in-None-2.is
    (c.in_ok-fixed_args-in-Some.ensures.made around at whole)) c.nothing-in-None-2.ensures

pub returns-in_err-cons-in-Some-2-clause-form : goal.returns-in_err-cons-in-Some-2-clause-form
returns-in_err-cons-in-Some-2-clause-form c = λ around at whole.
    let table = c.args.table.now in
    let mid = c.fixed_args.new.table in
    let p = source_of table.typed.now in
    let f = c.in-Some.function.now in
    let args : AreMayBeAt mid.closing.statics (Some c.in-Some-2.fixed) (fixed_args (static_in p around) f.params c.args.args.now) =
    subst (λ (o : Option (List ℕ)). AreMayBeAt mid.closing.statics o (fixed_args (static_in p around) f.params c.args.args.now)) c.in-Some-2.is (c.in_ok-fixed_args-in-Some.ensures.made around at whole) in
    let k = named_instance p around c.args.k c.args.cons.now c.args.args.now args.0 in
    let items = exps around (value_args f.params c.args.args.now) in
    with_arguments p around c.args.k c.args.cons.now c.args.args.now table c.cons_in.new.table c.from_residual-in_err-cons-in-Some-2.result f args.0 (sym c.get.ensures.value ∙ ap option_copied c.in-Some.is) args.2
    (exit (FormedAs table c.cons_in.new.table (call_form k items)) c.from_residual-in_err-cons-in-Some-2.result c.in_err-cons-in-Some-2.field-0.0 c.from_residual-in_err-cons-in-Some-2.ensures.1
    (cons_halt table c.cons_in.new.table c.cons_in.new.table.closing k items c.in_err-cons-in-Some-2.field-0.0
    (c.in_err-cons-in-Some-2.ensures.made around (scope_stays table mid c.in_ok-fixed_args-in-Some.ensures.stays.widens c.args.scope around at))))

pub returns-in_ok-cons-in-Some-2-clause-form : goal.returns-in_ok-cons-in-Some-2-clause-form
returns-in_ok-cons-in-Some-2-clause-form c = λ around at whole.
    let table = c.args.table.now in
    let mid = c.fixed_args.new.table in
    let then = c.cons_in.new.table in
    let p = source_of table.typed.now in
    let f = c.in-Some.function.now in
    let first = c.in_ok-fixed_args-in-Some.ensures.stays in
    let second = c.in_ok-cons-in-Some-2.ensures.stays in
    let stays = stays_then table mid then first second in
    let args : AreMayBeAt mid.closing.statics (Some c.in-Some-2.fixed) (fixed_args (static_in p around) f.params c.args.args.now) =
    subst (λ (o : Option (List ℕ)). AreMayBeAt mid.closing.statics o (fixed_args (static_in p around) f.params c.args.args.now)) c.in-Some-2.is (c.in_ok-fixed_args-in-Some.ensures.made around at whole) in
    with_arguments p around c.args.k c.args.cons.now c.args.args.now table c.called.new.table c.called.result f args.0 (sym c.get.ensures.value ∙ ap option_copied c.in-Some.is) args.2
    (key_called table then c.called.new.table c.args.k c.in_ok-cons-in-Some-2.cons c.in-Some-2.fixed (map (instance around.cons) c.args.cons.now) args.0 (exps around (value_args f.params c.args.args.now)) c.called.result stays whole
    (c.in_ok-cons-in-Some-2.ensures.made around (scope_stays table mid first.widens c.args.scope around at))
    (statics_grown mid.closing then.closing second.widens.closing c.in-Some-2.fixed args.0 args.1)
    (c.called.ensures.form around (scope_stays table then stays.widens c.args.scope around at) (whole_stays table then stays whole)))

pub returns-in_ok-cons-in-Some-2-clause-moves : goal.returns-in_ok-cons-in-Some-2-clause-moves
returns-in_ok-cons-in-Some-2-clause-moves c =
    let table = c.args.table.now in
    let mid = c.fixed_args.new.table in
    let then = c.cons_in.new.table in
    moves_then table then c.called.new.table (moves_of table then (stays_then table mid then c.in_ok-fixed_args-in-Some.ensures.stays c.in_ok-cons-in-Some-2.ensures.stays)) c.called.ensures.moves

pub returns-in-None-clause-moves : goal.returns-in-None-clause-moves
returns-in-None-clause-moves c = moves_of c.args.table.now c.args.table.now (stays_so c.args.table.now)

pub returns-in_err-fixed_args-in-Some-clause-moves : goal.returns-in_err-fixed_args-in-Some-clause-moves
returns-in_err-fixed_args-in-Some-clause-moves c = moves_of c.args.table.now c.fixed_args.new.table c.in_err-fixed_args-in-Some.ensures.stays

pub returns-in-None-2-clause-moves : goal.returns-in-None-2-clause-moves
returns-in-None-2-clause-moves c = moves_of c.args.table.now c.fixed_args.new.table c.in_ok-fixed_args-in-Some.ensures.stays

pub returns-in_err-cons-in-Some-2-clause-moves : goal.returns-in_err-cons-in-Some-2-clause-moves
returns-in_err-cons-in-Some-2-clause-moves c =
    moves_of c.args.table.now c.cons_in.new.table (stays_then c.args.table.now c.fixed_args.new.table c.cons_in.new.table c.in_ok-fixed_args-in-Some.ensures.stays c.in_err-cons-in-Some-2.ensures.stays)
