-- An item before a list of such items.
use Rattle.std.proofs.Common.{[], ◌∷◌, sym, ap, ◌∙◌}
use Rattle.ur_values.specs.declared.types.ValueType.{ValueType}
use Rattle.ur_values.specs.declared.types.ValueType.TheVariants as ty
use Rattle.ur_verify_operations.specs.Misfits.{cons_no_list, cons_not_alike}
use Rattle.ur_verify_operations.proofs.Covering.{not_so}
use Rattle.ur_verify_operations.proofs.Table.{same_two}
use Rattle.ur_verify_operations.proofs.arguments.cons.Goals as goal

pub returns-then-not-same_type-clause-told : goal.returns-then-not-same_type-clause-told
returns-then-not-same_type-clause-told c =
    cons_not_alike c.in-Some.a.now c.get-then-not-same_type.result.now
    (c.in-Some.ensures ∙ ap (λ (z : ValueType). c.in-Some.a.now ∷ z ∷ []) (c.in-Many.is ∙ ap (λ (z : ValueType). ty.Many z) (sym c.get-then-not-same_type.ensures)))
    (λ e. not_so _ c.same_type.ensures c.if-not-same_type.true (e ∙ c.get-then-not-same_type.ensures ∙ sym c.get.ensures)) c.in_ok-mismatch-in-Many.ensures

pub returns-in_ok-unlike-in_default-list : goal.returns-in_ok-unlike-in_default-list
returns-in_ok-unlike-in_default-list c = record {
  fits = λ k. c.in_default-list.not-Many k.1.0 (same_two (sym c.in-Some.ensures ∙ k.1.1)).1;
  told = cons_no_list c.in-Some.a.now c.in-Some.list.now c.in-Some.ensures c.in_default-list.not-Many c.in_ok-unlike-in_default-list.ensures;
}
