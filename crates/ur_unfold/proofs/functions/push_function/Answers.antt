use Rattle.ur_unfold.proofs.Headed.{pushed}
use Rattle.ur_unfold.proofs.functions.push_function.Goals as goal

pub returns : goal.returns
returns c =
    pushed c.args.typed.now c.args.table.now.closing c.args.table.now.instances.keys c.args.body c.args.functions.now c.push.new.self c.in_ok-function.function c.len.result c.push.result c.len.ensures c.in_ok-function.ensures.head c.in_ok-function.ensures.body
    c.push.ensures.ok
