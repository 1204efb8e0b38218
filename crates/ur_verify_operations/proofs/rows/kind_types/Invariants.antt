-- The types of the kinds so far.
use Rattle.std.proofs.Common.{◌≡◌, take, map}
use Rattle.ur_code.specs.RowType.{kind_type}
use Rattle.ur_verify_operations.proofs.rows.kind_types.Given as goal

abbrev pub invariant-loop-kind : goal.invariant-loop-kind
invariant-loop-kind l = l.types ≡ map kind_type (take l.kind-index l.kinds)
