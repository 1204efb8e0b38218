-- A field more in its place.
use Rattle.ur_verify_operations.proofs.Table.{together_step}
use Rattle.ur_verify_operations.proofs.fields.together.Goals as goal

pub loop-field-preserved : goal.loop-field-preserved
loop-field-preserved c =
    together_step _ c.loop-field.left.now c.in-Some.rest.now c.loop-field.made c.in_ok-made.made c.in-Some.field.now c.in_ok-copy_field.field-0 c.in-Some.ensures.cases.0 c.in_ok-copy_field.ensures
    c.in_ok-made.ensures c.loop-field.invariant
