use Rattle.std.proofs.Common.{length, map}
use Rattle.ur_check_rules.proofs.CalleesCalled.{Gives}
use Rattle.ur_check_rules.proofs.values.with_arguments.Given as goal

abbrev pub invariant-loop-con : goal.invariant-loop-con
invariant-loop-con l = Gives l.around l.number (map (λ c. c.now) l.fn.back) l.applied.number l.applied.args (map (λ c. c.now) l.applied.given) (map (λ c. c.now) l.back)

abbrev pub decreases-loop-con : goal.decreases-loop-con
decreases-loop-con l = length l.back
