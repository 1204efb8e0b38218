use Rattle.std.proofs.Common.{ap}
use Rattle.ur_keeper.specs.Memory.{Memory}
use Rattle.ur_keeper.proofs.Calls.{table-there}
use Rattle.ur_keeper.proofs.memory.MemoryKeeper.table.Goals as goal

pub saved_table-requires : goal.saved_table-requires
saved_table-requires c = table-there _ _ (ap (λ (m : Memory). m.kept) c.self.view_is) c.self.inside.held.saved c.args.table c.self.invariant.saved c.requires
