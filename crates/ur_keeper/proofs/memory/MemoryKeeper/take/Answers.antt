use Rattle.ur_keeper.proofs.Attaching.{keeps-made}
use Rattle.ur_keeper.proofs.memory.MemoryKeeper.take.Goals as goal

pub invariant_of-self : goal.invariant_of-self
invariant_of-self c = keeps-made c.args.schema.now c.in_ok-kept.kept c.self.inside.under_way c.in_ok-held.held c.in_ok-kept.ensures c.in_ok-held.ensures
