-- What is shown is of a scalar type.
use Rattle.ur_verify_operations.specs.Misfits.{not_such}
use Rattle.ur_verify_operations.proofs.Covering.{not_so}
use Rattle.ur_verify_operations.proofs.arguments.shows.Goals as goal

pub returns-then-not-is_scalar-clause-told : goal.returns-then-not-is_scalar-clause-told
returns-then-not-is_scalar-clause-told c = not_such c.in-Some.a.now c.in-Some.ensures (not_so _ c.is_scalar.ensures c.if-not-is_scalar.true) c.in_ok-unlike.ensures
