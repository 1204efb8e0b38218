use Rattle.ur_machine_operations.proofs.Opened.{no_items}
use Rattle.ur_machine_operations.proofs.operands.into_items.Goals as goal

pub unreachable-requires : goal.unreachable-requires
unreachable-requires c = c.requires (no_items c.args.value c.in_default.not-Many)
