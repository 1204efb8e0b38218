-- A field in its place.
use Rattle.std.proofs.Common.{◌∙◌}
use Rattle.ur_verify_operations.proofs.Table.{with_placed}
use Rattle.ur_verify_operations.proofs.fields.with_type.Goals as goal

pub returns : goal.returns
returns c =
    with_placed c.args.field c.args.fields c.as_slice.result.now c.into_vec-items.result.items c.from_vec.result c.place_of-place.result (c.from_vec.ensures ∙ c.in_ok-insert.ensures.items)
    c.into_vec-items.ensures c.place_of-place.ensures.place c.as_slice.ensures
