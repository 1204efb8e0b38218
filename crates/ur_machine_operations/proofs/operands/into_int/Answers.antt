use Rattle.ur_machine_operations.proofs.Opened.{no_int}
use Rattle.ur_machine_operations.proofs.operands.into_int.Goals as goal

pub unreachable-requires : goal.unreachable-requires
unreachable-requires c = c.requires (no_int c.args.value c.in_default.not-Int)
