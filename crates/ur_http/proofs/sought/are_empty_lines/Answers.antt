use Rattle.std.proofs.Common.{[], refl, arith}
use Rattle.std.proofs.lemmas.Bool.Decides.{nat_tests}
use Rattle.ur_http.proofs.Fronts.{past_one, all_past}
use Rattle.ur_http.proofs.sought.are_empty_lines.Goals as goal

pub loop-rest-init : goal.loop-rest-init
loop-rest-init c = ([], refl)

pub loop-rest-preserved : goal.loop-rest-preserved
loop-rest-preserved c = past_one c.args.bytes.now c.loop-rest.left.now c.in-Some.rest.now c.loop-rest.invariant c.in-Some.ensures.is

pub returns : goal.returns
returns c = λ e. all_past c.args.bytes.now c.loop-rest.left.now c.loop-rest.invariant (grind (arith, nat_tests, e))
