use Rattle.std.proofs.Common.{ap, ◌∙◌}
use Rattle.ur_keeper.specs.Memory.{Memory}
use Rattle.ur_keeper.proofs.Calls.{sequence-there, keeps-drawn}
use Rattle.ur_keeper.proofs.memory.MemoryKeeperKeeper.next_number.Goals as goal

pub next_number-requires-clause-sequence : goal.next_number-requires-clause-sequence
next_number-requires-clause-sequence c =
    sequence-there _ _ (ap (λ (m : Memory). m.kept) (c.self.view_is ∙ c.in_ok-count.ensures.ok)) c.self.inside.held.current c.args.sequence c.self.invariant.current c.requires.sequence

pub invariant_of-self : goal.invariant_of-self
invariant_of-self c =
    keeps-drawn _ _ (ap (λ (m : Memory). m.kept) (c.self.view_is ∙ c.in_ok-count.ensures.ok)) c.self.inside.under_way c.self.inside.held c.next_number.new.self c.self.invariant (ap (λ (m : Memory). m.under_way) (c.self.view_is ∙ c.in_ok-count.ensures.ok) ∙ c.requires.under_way) c.args.sequence c.next_number.ensures.drawn c.requires.sequence
