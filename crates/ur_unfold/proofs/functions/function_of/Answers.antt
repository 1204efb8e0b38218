use Rattle.std.proofs.Common.{subst}
use Rattle.std.specs.Prelude.{IfOk}
use Rattle.ur_unfold_pieces.specs.Keys.{instance_of}
use Rattle.ur_unfold.specs.Typing.{IsHead}
use Rattle.ur_unfold.proofs.Headed.{headed}
use Rattle.ur_unfold.proofs.functions.function_of.Goals as goal

pub returns-in-Ok-clause-head : goal.returns-in-Ok-clause-head
returns-in-Ok-clause-head c =
    headed c.args.typed.now c.args.source.now (instance_of c.args.table.now.closing c.args.key.now).cons c.in-Ok.head c.with_body.result (subst (λ r. IfOk r (IsHead c.args.typed.now c.args.source.now (instance_of c.args.table.now.closing c.args.key.now).cons)) c.in-Ok.is c.head_of.ensures) c.with_body.ensures.name c.with_body.ensures.params
    c.with_body.ensures.result c.with_body.ensures.runs
