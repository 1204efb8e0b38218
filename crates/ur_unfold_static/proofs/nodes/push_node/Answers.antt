use Rattle.ur_unfold_static.proofs.Keys.{last_key}
use Rattle.ur_unfold_static.proofs.NodeEq.{node_eq, eq_sound, eq_complete}
use Rattle.ur_unfold_static.proofs.nodes.push_node.Goals as goal

pub returns-clause-ok : goal.returns-clause-ok
returns-clause-ok c = last_key node_eq eq_sound eq_complete c.args.node c.args.nodes.now.keys _ c.requires.new c.in_ok-insert.ensures.keys
