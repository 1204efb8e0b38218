use Rattle.ur_machine_operations.proofs.Opened.{no_text}
use Rattle.ur_machine_operations.proofs.operands.into_text.Goals as goal

pub unreachable-requires : goal.unreachable-requires
unreachable-requires c = c.requires (no_text c.args.value c.in_default.not-Str)
