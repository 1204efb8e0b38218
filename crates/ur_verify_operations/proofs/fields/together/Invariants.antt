-- The fields that are left are to be put to those that are made.
use Rattle.std.proofs.Common.{◌≡◌, length}
use Rattle.ur_verify_operations.specs.Fields.{types_together}
use Rattle.ur_verify_operations.proofs.fields.together.Given as goal

abbrev pub invariant-loop-field : goal.invariant-loop-field
invariant-loop-field l = types_together l.left l.made ≡ types_together l.fields l.fn.others

abbrev pub decreases-loop-field : goal.decreases-loop-field
decreases-loop-field l = length l.left
