use Rattle.ur_check_heads.proofs.Forming.{arguments-along, no-arguments}
use Rattle.ur_check_heads.proofs.arguments.arguments_of.Goals as goal

pub returns-in_ok-all-in-Some : goal.returns-in_ok-all-in-Some
returns-in_ok-all-in-Some c =
    arguments-along c.args.names.now c.in-Some.front.now c.args.params.now c.in-Some.last.now c.in_ok-before-in-Some.before c.in_ok-all-in-Some.all c.in-Some.ensures.cases.0 c.in_ok-before-in-Some.ensures c.in_ok-all-in-Some.ensures
