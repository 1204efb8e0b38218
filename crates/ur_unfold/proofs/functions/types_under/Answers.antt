use Rattle.ur_unfold_static.specs.Scopes.{cons_of}
use Rattle.ur_unfold.proofs.Headed.{has_types}
use Rattle.ur_unfold.proofs.functions.types_under.Goals as goal

pub returns : goal.returns
returns c =
    let cons = cons_of c.args.closing.now c.args.scope.now in
    has_types c.args.names.now cons c.args.source.now _ c.in_ok-params.ensures (c.is_transaction.ensures c.args.names.now cons) c.in_ok-result.ensures
