use Rattle.std.proofs.Common.{length, map}
use Rattle.ur_typed.specs.Faults.{given_to}
use Rattle.ur_check_rules.specs.Peeling.{Peels}
use Rattle.ur_check_rules.proofs.values.given_to.Given as goal

abbrev pub invariant-loop-head : goal.invariant-loop-head
invariant-loop-head l = Peels l.e.form (map (λ c. c.now) l.given) l.head.form

abbrev pub decreases-loop-head : goal.decreases-loop-head
decreases-loop-head l = length (given_to l.head.form)
