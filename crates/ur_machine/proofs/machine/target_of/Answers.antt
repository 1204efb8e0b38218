use Rattle.std.proofs.Common.{sym}
use Rattle.ur_machine.proofs.machine.target_of.Goals as goal

pub unreachable-requires : goal.unreachable-requires
unreachable-requires c = c.requires (sym c.in-None.ensures.value)
