use Rattle.std.proofs.Common.{length}
use Rattle.ur_typed.specs.Faults.{given_to}
use Rattle.ur_check_walk.proofs.Passing.{Within}
use Rattle.ur_check_walk.proofs.instances.no_function.Given as goal

abbrev pub invariant-loop-head : goal.invariant-loop-head
invariant-loop-head l = Within l.e.form l.head.form

abbrev pub decreases-loop-head : goal.decreases-loop-head
decreases-loop-head l = length (given_to l.head.form)
