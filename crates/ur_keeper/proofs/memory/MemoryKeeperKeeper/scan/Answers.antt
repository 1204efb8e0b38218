use Rattle.std.proofs.Common.{ap, ◌∙◌, sym, subst}
use Rattle.ur_keeper.specs.Tables.{AreRowsOf}
use Rattle.ur_keeper.specs.Keeper.{OfShape}
use Rattle.ur_keeper.specs.Memory.{Memory, kept_of}
use Rattle.ur_keeper.proofs.Calls.{table-there, rows-there}
use Rattle.ur_keeper.proofs.memory.MemoryKeeperKeeper.scan.Goals as goal

pub scan-requires : goal.scan-requires
scan-requires c =
    table-there _ _ (ap (λ (m : Memory). m.kept) (c.self-2.view_is ∙ c.in_ok-count.ensures.ok) ∙ ap (λ (m : Memory). m.kept) c.self.view_is) c.self-2.inside.held.current c.args.table c.self-2.invariant.current c.requires.table

pub returns-in-Ok-clause-every_form : goal.returns-in-Ok-clause-every_form
returns-in-Ok-clause-every_form c =
    subst (λ rows. OfShape (kept_of c.args.self.now.kept) c.args.table (λ shape. AreRowsOf shape rows)) (sym c.in-Ok.ensures)
    (rows-there _ _ (ap (λ (m : Memory). m.kept) (c.self-2.view_is ∙ c.in_ok-count.ensures.ok) ∙ ap (λ (m : Memory). m.kept) c.self.view_is) c.self-2.inside.held.current c.args.table c.self-2.invariant.current)
