use Rattle.ur_emit.proofs.Calls.{argument_found}
use Rattle.ur_emit.proofs.links.push_found.Goals as goal

pub returns-in_ok-push_argument-in-Some : goal.returns-in_ok-push_argument-in-Some
returns-in_ok-push_argument-in-Some c =
    argument_found c.args.slots.now c.args.arg.now c.in-Some.value.now c.args.out.now c.push_argument.new.out c.in-Some.ensures
    c.in_ok-push_argument-in-Some.ensures
