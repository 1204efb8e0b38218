use Rattle.ur_machine_operations.proofs.Opened.{no_bool}
use Rattle.ur_machine_operations.proofs.operands.into_bool.Goals as goal

pub unreachable-requires : goal.unreachable-requires
unreachable-requires c = c.requires (no_bool c.args.value c.in_default.not-Bool)
