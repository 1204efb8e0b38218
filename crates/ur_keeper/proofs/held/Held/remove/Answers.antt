use Rattle.ur_values.specs.Numbered.{drop_row}
use Rattle.ur_keeper.proofs.Edits.{changed}
use Rattle.ur_keeper.proofs.held.Held.remove.Goals as goal

pub returns-clause-ok : goal.returns-clause-ok
returns-clause-ok c =
    changed c.self.inside.tables.items c.self.inside.sequences.items c.args.table c.index_mut.result.now c.remove.new.self (λ rows. drop_row rows c.args.number) c.remove.result c.args.self.now c.self.view_is c.requires.table c.index_mut.ensures.value
    c.remove.ensures.ok
