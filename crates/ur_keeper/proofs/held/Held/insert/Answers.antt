use Rattle.ur_values.specs.Numbered.{add_row}
use Rattle.ur_keeper.proofs.Edits.{changed}
use Rattle.ur_keeper.proofs.held.Held.insert.Goals as goal

pub returns-clause-ok : goal.returns-clause-ok
returns-clause-ok c =
    changed c.self.inside.tables.items c.self.inside.sequences.items c.args.table c.index_mut.result.now c.insert.new.self (λ rows. add_row rows c.args.row.now) c.insert.result c.args.self.now c.self.view_is c.requires.table c.index_mut.ensures.value
    c.insert.ensures.ok
