use Rattle.std.proofs.Common.{refl}
use Rattle.ur_check_heads.proofs.Targeting.{route-is}
use Rattle.ur_check_heads.proofs.routes.route_of.Goals as goal

pub returns-clause-is : goal.returns-clause-is
returns-clause-is c =
    route-is c.args.modules.now c.args.names.now c.args.function.now _ c.is_page.result c.in_ok-given.given c.as_slice.result.now c.is_page.ensures c.if-not-is_page.false c.in_ok-module_name.ensures c.in_ok-function_name.ensures c.as_slice.ensures c.in_ok-given.ensures refl refl
