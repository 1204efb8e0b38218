use Rattle.ur_machine_operations.proofs.Opened.{no_nodes}
use Rattle.ur_machine_operations.proofs.operands.into_nodes.Goals as goal

pub unreachable-requires : goal.unreachable-requires
unreachable-requires c = c.requires (no_nodes c.args.value c.in_default.not-Markup)
