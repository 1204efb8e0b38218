use Rattle.ur_machine_operations.proofs.Arguments.{comes_as}
use Rattle.ur_machine_operations.proofs.Doing.{does-Link, link_parts}
use Rattle.ur_machine_operations.proofs.markup.link.Goals as goal

pub all_nodes-requires : goal.all_nodes-requires
all_nodes-requires c = link_parts c.args.route c.args.count c.args.args _ c.requires.0 c.requires.1 c.in-Ok.ensures.back

pub returns-in-Ok-all_nodes : goal.returns-in-Ok-all_nodes
returns-in-Ok-all_nodes c = comes_as c.of_node.result (does-Link _ _ _ _ _ _ c.in-Ok.ensures.front c.in-Ok.ensures.back c.in-Ok-all_nodes.ensures) c.of_node.ensures
