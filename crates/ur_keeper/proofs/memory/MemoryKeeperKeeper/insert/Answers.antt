use Rattle.std.proofs.Common.{ap, ◌∙◌}
use Rattle.ur_keeper.specs.Memory.{Memory}
use Rattle.ur_keeper.proofs.Calls.{table-there, rises-there, keeps-inserted}
use Rattle.ur_keeper.proofs.memory.MemoryKeeperKeeper.insert.Goals as goal

pub insert-requires-clause-table : goal.insert-requires-clause-table
insert-requires-clause-table c =
    table-there _ _ (ap (λ (m : Memory). m.kept) (c.self.view_is ∙ c.in_ok-count.ensures.ok)) c.self.inside.held.current c.args.table c.self.invariant.current c.requires.table

pub insert-requires-clause-rising : goal.insert-requires-clause-rising
insert-requires-clause-rising c =
    rises-there _ _ (ap (λ (m : Memory). m.kept) (c.self.view_is ∙ c.in_ok-count.ensures.ok)) c.self.inside.held.current c.args.table c.self.invariant.current c.requires.table

pub invariant_of-self : goal.invariant_of-self
invariant_of-self c =
    keeps-inserted _ _ (ap (λ (m : Memory). m.kept) (c.self.view_is ∙ c.in_ok-count.ensures.ok)) c.self.inside.under_way c.self.inside.held c.insert.new.self c.self.invariant (ap (λ (m : Memory). m.under_way) (c.self.view_is ∙ c.in_ok-count.ensures.ok) ∙ c.requires.under_way) c.args.table c.args.row.now c.in-Ok.ensures.ok c.requires.table c.requires.row
