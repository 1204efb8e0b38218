-- The arguments in the path, and the form's record.
use Rattle.std.proofs.Common.{◌∙◌}
use Rattle.ur_verify_operations.proofs.RowTypes.{route_with, route_without}
use Rattle.ur_verify_operations.proofs.rows.route_types.Goals as goal
use Rattle.ur_verify_operations.proofs.rows.route_types.Goals.{then-not-is_empty+in_ok-fields+in_ok-push, else-not-is_empty}

pub returns : goal.returns
returns c =
    elim c.if-not-is_empty.branch [
      | then-not-is_empty+in_ok-fields+in_ok-push w ↦
          route_with c.args.of.now c.as_slice.result.now c.in_ok-types.types c.in_ok-types.ensures c.as_slice.ensures c.is_empty.result c.is_empty.ensures
          w.as_slice-then-not-is_empty.result.now w.in_ok-fields.fields c.if-not-is_empty.types w.if-not-is_empty.true w.as_slice-then-not-is_empty.ensures w.in_ok-fields.ensures
          (w.types-is ∙ w.in_ok-push.ensures.ok)
      | else-not-is_empty w ↦
          route_without c.args.of.now c.as_slice.result.now c.in_ok-types.types c.in_ok-types.ensures c.as_slice.ensures c.is_empty.result c.is_empty.ensures
          c.if-not-is_empty.types w.if-not-is_empty.false w.types-is
    ]
