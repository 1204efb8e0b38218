use Rattle.std.proofs.Common.{ap, ◌∙◌}
use Rattle.ur_keeper.specs.Memory.{Memory}
use Rattle.ur_keeper.proofs.Calls.{table-there, rises-there, keeps-removed}
use Rattle.ur_keeper.proofs.memory.MemoryKeeperKeeper.remove.Goals as goal

pub remove-requires-clause-table : goal.remove-requires-clause-table
remove-requires-clause-table c =
    table-there _ _ (ap (λ (m : Memory). m.kept) (c.self.view_is ∙ c.in_ok-count.ensures.ok)) c.self.inside.held.current c.args.table c.self.invariant.current c.requires.table

pub remove-requires-clause-rising : goal.remove-requires-clause-rising
remove-requires-clause-rising c =
    rises-there _ _ (ap (λ (m : Memory). m.kept) (c.self.view_is ∙ c.in_ok-count.ensures.ok)) c.self.inside.held.current c.args.table c.self.invariant.current c.requires.table

pub invariant_of-self : goal.invariant_of-self
invariant_of-self c =
    keeps-removed _ _ (ap (λ (m : Memory). m.kept) (c.self.view_is ∙ c.in_ok-count.ensures.ok)) c.self.inside.under_way c.self.inside.held c.remove.new.self c.self.invariant (ap (λ (m : Memory). m.under_way) (c.self.view_is ∙ c.in_ok-count.ensures.ok) ∙ c.requires.under_way) c.args.table c.args.number c.in-Ok.ensures.ok c.requires.table
