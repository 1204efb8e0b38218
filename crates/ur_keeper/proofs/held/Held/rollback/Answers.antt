use Rattle.ur_keeper.proofs.Edits.{all-rolled_back}
use Rattle.ur_keeper.proofs.held.Held.rollback.Goals as goal

pub returns : goal.returns
returns c =
    all-rolled_back c.args.self.now c.self.inside.tables.items c.roll_back_tables.new.tables.items c.self.inside.sequences.items c.roll_back_sequences.new.sequences.items c.self.view_is c.roll_back_tables.ensures c.roll_back_sequences.ensures
