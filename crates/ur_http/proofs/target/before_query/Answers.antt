use Rattle.std.proofs.Common.{arith}
use Rattle.std.proofs.lemmas.Grind.{common_steps}
use Rattle.ur_http.specs.Fields.{before_query}
use Rattle.ur_http.proofs.target.before_query.Goals as goal

pub returns-in-Some : goal.returns-in-Some
unfolding before_query
returns-in-Some c = rw c.in-Some.ensures.place.0 (grind (arith, common_steps))

pub returns-in-None : goal.returns-in-None
unfolding before_query
returns-in-None c = rw c.in-None.ensures.place (grind (arith, common_steps))
