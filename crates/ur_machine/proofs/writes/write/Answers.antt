use Rattle.std.proofs.Common.{sym, refl, subst, arith, All, length, []}
use Rattle.std.specs.Prelude.{slice_index_or}
use Rattle.ur_values.specs.Atom.{IsAtomic}
use Rattle.ur_machine.specs.Answers.{sites_of}
use Rattle.ur_conditions.specs.Masks.{PatternReads}
use Rattle.ur_values.specs.Store.{FitKinds}
use Rattle.ur_terms.specs.declared.term.Op.TheVariants as op
use Rattle.ur_machine.proofs.Doing.{store_call_exit, store_call_spent, write_store_call, write_spent_there, made_at, change_there, change_args, change_fits}
use Rattle.ur_machine.proofs.Reading.{no_step, none_reached, are_atomic, masks_there, masks_read, write_step, write_leaves, masks_at_args}
use Rattle.ur_machine.proofs.writes.write.Goals as goal

pub returns-in_err-charge-clause-store_call : goal.returns-in_err-charge-clause-store_call
returns-in_err-charge-clause-store_call g c =
    store_call_exit c.from_residual.result c.in_err-charge.field-0.0 c.from_residual.ensures.1
    (store_call_spent _ c.args.code.now (op.Write c.args.update) c.args.args _ _ _ _ _ _ _ _ _ c.requires.kept (no_step c.args.code.now (sites_of c.args.code.now c.args.patterns.now) c.args.cache.now c.args.cache.now (g.K.Keeper.reads c.args.keeper.now) (g.K.Keeper.reads c.args.keeper.now) c.args.reached.now refl refl (none_reached c.args.code.now c.args.reached.now c.requires.nothing)) c.in_err-charge.field-0.0 c.in_err-charge.ensures.0 refl refl refl c.requires.under_way
    (write_spent_there c.args.code.now c.args.update c.args.args c.args.units.now c.requires.takes c.in_err-charge.ensures.1))

pub unreachable-requires : goal.unreachable-requires
unreachable-requires g c = change_there c.args.code.now c.args.update c.args.args c.requires.takes (sym c.in-None.ensures.value)

pub make-requires-clause-fits : goal.make-requires-clause-fits
make-requires-clause-fits g c = change_fits c.args.code.now c.requires.fits c.args.update c.in-Some.change.now (sym c.in-Some.ensures.value)

pub make-requires-clause-args : goal.make-requires-clause-args
make-requires-clause-args g c = subst (λ xs. FitKinds xs c.in-Some.change.now.params) (sym c.as_slice-in-Some.ensures) (change_args c.args.code.now c.args.update c.args.args c.requires.takes c.in-Some.change.now (sym c.in-Some.ensures.value))

pub add_masks-requires-clause-update : goal.add_masks-requires-clause-update
add_masks-requires-clause-update g c =
    let at = sym c.in-Some.ensures.value in
    masks_there c.args.code.now c.args.patterns.now c.args.update c.args.args c.requires.patterns c.in-Some.change.now at (change_args c.args.code.now c.args.update c.args.args c.requires.takes c.in-Some.change.now at)

pub add_masks-requires-clause-kinds : goal.add_masks-requires-clause-kinds
add_masks-requires-clause-kinds g c =
    let at = sym c.in-Some.ensures.value in
    subst (All IsAtomic) (sym c.as_slice.ensures) (are_atomic c.args.args c.in-Some.change.now.params (change_args c.args.code.now c.args.update c.args.args c.requires.takes c.in-Some.change.now at))

pub add_masks-requires-clause-reads : goal.add_masks-requires-clause-reads
add_masks-requires-clause-reads g c =
    let at = sym c.in-Some.ensures.value in
    subst (λ xs. All (All (PatternReads (length xs))) (slice_index_or c.args.patterns.now.updates c.args.update [])) (sym c.as_slice.ensures)
    (masks_read c.args.code.now c.args.patterns.now c.args.update c.args.args c.requires.patterns c.in-Some.change.now at (change_args c.args.code.now c.args.update c.args.args c.requires.takes c.in-Some.change.now at))

pub returns-clause-store_call : goal.returns-clause-store_call
returns-clause-store_call g c =
    write_store_call _ c.args.code.now c.args.update c.in-Some.change.now (sym c.in-Some.ensures.value) c.args.args c.args.units.now c.charge.new.units _ _ _ _ _ _ _ c.make.result
    c.in_ok-charge.ensures.0 (let few = c.in_ok-charge.ensures.1 in omega (arith, few)) c.in_ok-charge.ensures.2 c.requires.kept c.requires.ready
    (write_step c.args.code.now c.args.patterns.now c.args.update c.args.args c.args.cache.now c.add_masks.new.cache (g.K.Keeper.reads c.args.keeper.now) (g.K.Keeper.reads c.make.new.keeper) c.make.result (masks_at_args c.args.cache.now c.add_masks.new.cache c.as_slice.result.now c.args.args (slice_index_or c.args.patterns.now.updates c.args.update []) c.as_slice.ensures c.in_ok-add_masks-in-Some.ensures.ok) c.make.ensures.reads)
    (made_at _ _ c.as_slice-in-Some.ensures c.make.ensures.made)

pub returns-clause-answers : goal.returns-clause-answers
returns-clause-answers g c =
    let at = sym c.in-Some.ensures.value in
    write_leaves c.args.code.now c.args.patterns.now c.args.update c.args.args c.requires.patterns c.in-Some.change.now at (change_args c.args.code.now c.args.update c.args.args c.requires.takes c.in-Some.change.now at)
    c.args.units.now _ _ _ _ _ _ _ c.args.cache.now c.add_masks.new.cache c.make.result c.requires.ready c.requires.saved c.requires.current (masks_at_args c.args.cache.now c.add_masks.new.cache c.as_slice.result.now c.args.args (slice_index_or c.args.patterns.now.updates c.args.update []) c.as_slice.ensures c.in_ok-add_masks-in-Some.ensures.ok)
    (made_at _ _ c.as_slice-in-Some.ensures c.make.ensures.made)
