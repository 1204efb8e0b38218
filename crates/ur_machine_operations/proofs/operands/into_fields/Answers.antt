use Rattle.ur_machine_operations.proofs.Opened.{no_fields}
use Rattle.ur_machine_operations.proofs.operands.into_fields.Goals as goal

pub unreachable-requires : goal.unreachable-requires
unreachable-requires c = c.requires (no_fields c.args.value c.in_default.not-Row)
