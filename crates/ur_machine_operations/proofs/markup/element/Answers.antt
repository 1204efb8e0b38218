use Rattle.ur_terms.specs.Values.{all_nodes}
use Rattle.ur_machine_operations.proofs.Arguments.{comes_as, there}
use Rattle.ur_machine_operations.proofs.Doing.{does-Element}
use Rattle.ur_machine_operations.proofs.markup.element.Goals as goal

pub all_nodes-requires : goal.all_nodes-requires
all_nodes-requires c = there (all_nodes c.args.parts) _ c.requires.1

pub returns-in-Ok : goal.returns-in-Ok
returns-in-Ok c = comes_as c.of_node.result (does-Element _ _ _ c.in-Ok.ensures) c.of_node.ensures
