use Rattle.ur_check_scopes.proofs.Wanting.{arrow-behind}
use Rattle.ur_check_scopes.proofs.modes.behind.Goals as goal

pub returns-in-Arrow : goal.returns-in-Arrow
returns-in-Arrow c = arrow-behind c.args.of.now _ _ c.get.result.now c.in-Arrow.is c.get.ensures
