use Rattle.std.proofs.Common.{sym, ap, ◌∙◌}
use Rattle.std.specs.Option.{option_copied}
use Rattle.ur_unfold_static.proofs.Viewed.{node_is, node_none}
use Rattle.ur_unfold_static.proofs.closing.Closing.node.Goals as goal

pub returns-in-None : goal.returns-in-None
returns-in-None c = node_none c.self.inside.cons c.self.inside.lambdas c.self.inside.nodes.keys c.args.self.now c.self.view_is c.self.invariant c.args.number (sym c.get_index.ensures.key ∙ ap option_copied c.in-None.is)

pub returns-in-Some : goal.returns-in-Some
returns-in-Some c = node_is c.self.inside.cons c.self.inside.lambdas c.self.inside.nodes.keys c.args.self.now c.self.view_is c.self.invariant c.args.number c.in-Some.node.now (sym c.get_index.ensures.key ∙ ap option_copied c.in-Some.is)
