use Rattle.ur_check_heads.proofs.Binding.{bind-kinded}
use Rattle.ur_check_heads.proofs.bodies.bind_param.Goals as goal

pub returns-in_ok-bind-in-Kinded : goal.returns-in_ok-bind-in-Kinded
returns-in_ok-bind-in-Kinded c = bind-kinded c.args.param.now c.in-Kinded.name c.in-Kinded.kind c.args.names.now c.bind.new.self c.in-Kinded.is c.in_ok-bind-in-Kinded.ensures.ok
