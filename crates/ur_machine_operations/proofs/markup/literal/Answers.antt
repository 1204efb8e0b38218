use Rattle.ur_machine_operations.proofs.Doing.{joins_nodes}
use Rattle.ur_machine_operations.proofs.markup.literal.Goals as goal

pub returns : goal.returns
returns c = joins_nodes c.args.parts c.all_nodes.result c.of_nodes.result c.all_nodes.ensures c.of_nodes.ensures
