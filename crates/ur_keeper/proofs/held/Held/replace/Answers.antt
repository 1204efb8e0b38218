use Rattle.ur_values.specs.Numbered.{put_row}
use Rattle.ur_keeper.proofs.Edits.{changed}
use Rattle.ur_keeper.proofs.held.Held.replace.Goals as goal

pub returns-clause-ok : goal.returns-clause-ok
returns-clause-ok c =
    changed c.self.inside.tables.items c.self.inside.sequences.items c.args.table c.index_mut.result.now c.replace.new.self (λ rows. put_row rows c.args.number c.args.row.now) c.replace.result c.args.self.now c.self.view_is c.requires.table c.index_mut.ensures.value
    c.replace.ensures.ok
