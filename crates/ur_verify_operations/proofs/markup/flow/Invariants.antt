-- The parts that are left come before those whose fields are known.
use Rattle.std.proofs.Common.{◌≡◌, [], length}
use Rattle.ur_verify_operations.specs.Fields.{flow_before}
use Rattle.ur_verify_operations.proofs.Told.{Behind}
use Rattle.ur_verify_operations.proofs.markup.flow.Given as goal

abbrev pub invariant-loop-part : goal.invariant-loop-part
invariant-loop-part l = (flow_before l.left l.fields ≡ flow_before l.ts []) × Behind l.ts l.left l.fields

abbrev pub decreases-loop-part : goal.decreases-loop-part
decreases-loop-part l = length l.left
