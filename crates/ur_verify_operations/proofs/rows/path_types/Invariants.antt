-- The types of the parameters so far.
use Rattle.std.proofs.Common.{◌≡◌, take, map}
use Rattle.ur_code.specs.RouteTypes.{param_type}
use Rattle.ur_verify_operations.proofs.rows.path_types.Given as goal

abbrev pub invariant-loop-param : goal.invariant-loop-param
invariant-loop-param l = l.types ≡ map param_type (take l.param-index l.params)
