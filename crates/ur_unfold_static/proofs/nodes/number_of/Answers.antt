use Rattle.std.proofs.Common.{sym, ◌∙◌}
use Rattle.ur_unfold_static.proofs.Keys.{key_at, no_key}
use Rattle.ur_unfold_static.proofs.NodeEq.{node_eq, eq_sound, eq_complete}
use Rattle.ur_unfold_static.proofs.nodes.number_of.Goals as goal

pub returns-in-Some : goal.returns-in-Some
returns-in-Some c = key_at node_eq eq_sound eq_complete c.args.node.now c.args.nodes.now.keys c.in-Some.place (sym c.get_index_of.ensures.index ∙ c.in-Some.is)

pub returns-in-None : goal.returns-in-None
returns-in-None c = no_key node_eq eq_sound eq_complete c.args.node.now c.args.nodes.now.keys (sym c.in-None.ensures.found)
