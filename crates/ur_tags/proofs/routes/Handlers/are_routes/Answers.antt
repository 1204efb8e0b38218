use Rattle.ur_tags.proofs.Telling.{not_named, routes_by}
use Rattle.ur_tags.proofs.routes.Handlers.are_routes.Goals as goal

pub returns-then-not-are_named : goal.returns-then-not-are_named
returns-then-not-are_named c = not_named c.args.self.now c.as_slice-routes.result.now c.are_named.result c.as_slice-routes.ensures c.are_named.ensures c.if-not-are_named.true

pub returns : goal.returns
returns c =
    routes_by c.args.self.now c.as_slice-routes.result.now c.are_named.result c.are_apart.result c.as_slice-routes.ensures c.if-routes.false c.are_named.ensures c.if-not-are_named.false
    c.are_apart.ensures
