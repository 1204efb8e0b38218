use Rattle.std.proofs.Common.{◌≤◌, length, ap, sym, ◌∙◌, subst}
use Rattle.std.specs.Prelude.{insert}
use Rattle.ur_machine_operations.proofs.Fields.{ok_as, placed, place_within}
use Rattle.ur_machine_operations.proofs.records.with_field.Goals as goal

pub with_item-requires : goal.with_item-requires
with_item-requires c = subst (λ k. k ≤ length c.args.fields) (sym c.place_for-place.ensures) (place_within _ c.args.fields)

pub returns : goal.returns
returns c = ok_as c.with_item.result _ _ (ap (λ k. insert c.args.fields k (c.args.name, c.args.value)) c.place_for-place.ensures ∙ placed (c.args.name, c.args.value) c.args.fields) c.with_item.ensures
