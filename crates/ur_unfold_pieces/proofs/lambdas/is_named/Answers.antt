use Rattle.std.proofs.Common.{◌∙◌}
use Rattle.ur_unfold_pieces.proofs.Keeping.{named_is}
use Rattle.ur_unfold_pieces.proofs.lambdas.is_named.Goals as goal

pub returns : goal.returns
returns c = c.either.ensures ∙ named_is c.args.of c.args.params.now c.args.body.now c.in_ok-bound.bound c.in_params-first.result c.in_ok-second.second c.in_ok-bound.ensures c.in_params-first.ensures c.in_ok-second.ensures
