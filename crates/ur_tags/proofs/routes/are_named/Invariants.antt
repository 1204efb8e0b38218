use Rattle.std.proofs.Common.{take}
use Rattle.std.specs.Prelude.{All}
use Rattle.ur_tags.specs.Routes.{IsNamed}
use Rattle.ur_tags.proofs.routes.are_named.Given as goal

abbrev pub invariant-loop-route : goal.invariant-loop-route
invariant-loop-route l = All IsNamed (take l.route-index l.routes)
