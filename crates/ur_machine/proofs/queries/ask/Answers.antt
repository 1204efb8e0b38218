use Rattle.std.proofs.Common.{◌≡◌, sym, subst, Ok, Err, All, IfSome}
use Rattle.ur_values.specs.Atom.{IsAtomic, atom_values}
use Rattle.ur_machine.specs.Reading.{IsKeyOf}
use Rattle.ur_machine.proofs.Doing.{store_call_exit}
use Rattle.ur_machine.proofs.Asking.{key_of, ask_store_call}
use Rattle.ur_machine.proofs.Reading.{are_atomic, finds_at_key}
use Rattle.ur_machine.proofs.queries.ask.Goals as goal

pub rows_at-requires-clause-takes : goal.rows_at-requires-clause-takes
rows_at-requires-clause-takes g c = subst (IsKeyOf c.args.code.now c.args.site) (sym c.as_slice-values.ensures) (key_of c.args.code.now c.args.how c.args.site c.args.key c.requires.takes)

pub key_if_any-requires : goal.key_if_any-requires
key_if_any-requires g c =
    let is = key_of c.args.code.now c.args.how c.args.site c.args.key c.requires.takes in
    subst (All IsAtomic) (sym c.as_slice-values.ensures) (are_atomic c.args.key is.query.params is.fits)

pub returns-in_err-value-clause-store_call : goal.returns-in_err-value-clause-store_call
returns-in_err-value-clause-store_call g c =
    store_call_exit c.from_residual-in_err-value.result c.in_err-value.field-0.0 c.from_residual-in_err-value.ensures.1
    (ask_store_call c.args.code.now c.args.how c.args.site c.args.key c.args.units.now c.args.patterns.now _ _ _ _ _ _ _ _ _ _ _ c.requires.kept
    c.key_if_any.result (subst (λ k. IfSome c.key_if_any.result (λ atoms. atom_values atoms ≡ k)) c.as_slice-values.ensures c.key_if_any.ensures) (key_of c.args.code.now c.args.how c.args.site c.args.key c.requires.takes) c.in_ok-rows.rows
    (finds_at_key _ _ _ _ _ _ _ _ _ _ _ _ _ _ _ _ _ c.as_slice-values.ensures c.in_ok-rows.ensures.finds) c.requires.ready c.answer_to.new.units (Err c.in_err-value.field-0.0) c.in_err-value.ensures)

pub returns-clause-store_call : goal.returns-clause-store_call
returns-clause-store_call g c =
    ask_store_call c.args.code.now c.args.how c.args.site c.args.key c.args.units.now c.args.patterns.now _ _ _ _ _ _ _ _ _ _ _ c.requires.kept
    c.key_if_any.result (subst (λ k. IfSome c.key_if_any.result (λ atoms. atom_values atoms ≡ k)) c.as_slice-values.ensures c.key_if_any.ensures) (key_of c.args.code.now c.args.how c.args.site c.args.key c.requires.takes) c.in_ok-rows.rows
    (finds_at_key _ _ _ _ _ _ _ _ _ _ _ _ _ _ _ _ _ c.as_slice-values.ensures c.in_ok-rows.ensures.finds) c.requires.ready c.answer_to.new.units (Ok c.in_ok-value.value) c.in_ok-value.ensures
