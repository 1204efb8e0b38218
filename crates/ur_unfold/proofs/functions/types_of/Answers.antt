use Rattle.ur_unfold.proofs.Headed.{typed_so}
use Rattle.ur_unfold.proofs.functions.types_of.Goals as goal

pub returns : goal.returns
returns c = typed_so c.args.names.now c.args.closing.now c.args.key.now c.in_ok-scope.scope c.args.source.now c.types_under.result c.in_ok-scope.ensures c.types_under.ensures
