use Rattle.ur_terms.specs.Values.{all_nodes}
use Rattle.ur_machine_operations.proofs.Arguments.{there}
use Rattle.ur_machine_operations.proofs.operators.OperatorsOperations.join.Goals as goal

pub literal-requires : goal.literal-requires
literal-requires c = there (all_nodes c.args.parts) _ c.requires.1
