use Rattle.std.proofs.Common.{sym}
use Rattle.ur_machine.proofs.Beginning.{stands_there}
use Rattle.ur_machine.proofs.machine.Machine.control.Goals as goal

pub unreachable-requires : goal.unreachable-requires
unreachable-requires c = stands_there c.args.code.now c.args.self.now c.requires (sym c.in-None.ensures.value) c.in-None-here.ensures
