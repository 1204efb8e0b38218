use Rattle.ur_keeper.proofs.Edits.{all-committed}
use Rattle.ur_keeper.proofs.held.Held.commit.Goals as goal

pub returns : goal.returns
returns c =
    all-committed c.args.self.now c.self.inside.tables.items c.commit_tables.new.tables.items c.self.inside.sequences.items c.commit_sequences.new.sequences.items c.self.view_is c.commit_tables.ensures c.commit_sequences.ensures
