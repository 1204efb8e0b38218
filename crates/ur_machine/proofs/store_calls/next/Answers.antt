use Rattle.std.proofs.Common.{◌≡◌, refl, sym, ap, subst, ◌∙◌, Ok, rules, arith}
use Rattle.std.specs.Int.RustNames.{FitsSigned}
use Rattle.std.proofs.lemmas.Int.{to_z-of_z}
use mir.Syntax.{w64}
use mir.Val.{to_z, of_z}
use Rattle.ur_values.specs.declared.value.Value.TheVariants as v
use Rattle.ur_terms.specs.declared.term.Op.TheVariants as op
use Rattle.ur_machine.specs.Answers.{sites_of}
use Rattle.ur_machine.specs.declared.reached.Reached.TheVariants as reached
use Rattle.ur_machine.specs.StoreCalls.{OneStep, StoreCall}
use Rattle.ur_machine.proofs.Doing.{store_call_exit, store_call_spent, next_spent, next_store_call, is_int, no_args, sequence_there}
use Rattle.ur_machine.proofs.Reading.{no_step, none_reached, draw_leaves}
use Rattle.ur_machine.proofs.store_calls.next.Goals as goal

pub returns-in_err-charge-clause-store_call : goal.returns-in_err-charge-clause-store_call
returns-in_err-charge-clause-store_call g c =
    store_call_exit c.from_residual.result c.in_err-charge.field-0.0 c.from_residual.ensures.1
    (store_call_spent _ c.args.code.now (op.Next c.args.sequence) c.args.args _ _ _ _ _ _ _ _ _ c.requires.kept
    (no_step c.args.code.now (sites_of c.args.code.now c.args.patterns.now) c.args.cache.now c.args.cache.now (g.K.Keeper.reads c.args.keeper.now)
    (g.K.Keeper.reads c.args.keeper.now) c.args.reached.now refl refl (none_reached c.args.code.now c.args.reached.now c.requires.nothing))
    c.in_err-charge.field-0.0 c.in_err-charge.ensures.0 refl refl refl c.requires.under_way
    (next_spent (λ es. Unit {0}) c.args.code.now c.args.sequence (sequence_there c.args.code.now c.args.sequence c.args.args c.requires.takes)
    c.args.units.now c.args.args
    (no_args c.args.code.now c.args.sequence c.args.args c.requires.takes) c.in_err-charge.ensures.1))

pub returns-clause-store_call : goal.returns-clause-store_call
returns-clause-store_call g c =
    let fits : FitsSigned w64 c.in_ok-number.number = search rules in
    let same : to_z w64 (of_z w64 c.in_ok-number.number) ≡ c.in_ok-number.number = to_z-of_z w64 c.in_ok-number.number fits in
    subst (λ x. StoreCall (OneStep c.args.code.now (sites_of c.args.code.now c.args.patterns.now) c.args.cache.now c.args.cache.now
    (g.K.Keeper.reads c.args.keeper.now) (g.K.Keeper.reads c.draw.new.keeper) (reached.Sequence c.args.sequence)) c.args.code.now
    (op.Next c.args.sequence) c.args.args c.args.units.now c.charge.new.units (g.K.Keeper.saved c.args.keeper.now) (g.K.Keeper.saved c.draw.new.keeper)
    (g.K.Keeper.current c.args.keeper.now) (g.K.Keeper.current c.draw.new.keeper) (g.K.Keeper.kept c.draw.new.keeper)
    (g.K.Keeper.under_way c.draw.new.keeper) (Ok x))
    (sym (c.value.ensures ∙ ap v.Int same))
    (next_store_call _ c.args.code.now c.args.sequence (sequence_there c.args.code.now c.args.sequence c.args.args c.requires.takes) c.args.units.now
    (no_step c.args.code.now (sites_of c.args.code.now c.args.patterns.now) c.args.cache.now c.args.cache.now (g.K.Keeper.reads c.args.keeper.now)
    (g.K.Keeper.reads c.draw.new.keeper) (reached.Sequence c.args.sequence) refl c.in_ok-number.ensures.reads refl) c.args.args
    (no_args c.args.code.now c.args.sequence c.args.args c.requires.takes) c.charge.new.units _ _ _ _ _ _ _ c.in_ok-number.number
    c.in_ok-charge.ensures.0 (let few = c.in_ok-charge.ensures.1 in omega (arith, few)) c.in_ok-charge.ensures.2 c.requires.kept c.requires.ready
    c.in_ok-number.ensures.number c.in_ok-number.ensures.current (is_int c.in_ok-number.number fits) c.in_ok-number.ensures.ends)

pub returns-clause-answers : goal.returns-clause-answers
returns-clause-answers g c = draw_leaves c.args.code.now c.args.sequence _ _ _ _ c.args.cache.now _ c.requires.saved c.requires.current
    c.in_ok-number.ensures.ends.same_saved c.in_ok-number.ensures.current
