use Rattle.ur_keeper.proofs.Attaching.{made-empty}
use Rattle.ur_keeper.proofs.held.Held.made.Goals as goal

pub returns : goal.returns
returns c =
    made-empty c.args.schema.now c.in_ok-made_tables.field-0.items c.in_ok-made_sequences.field-0.items c.in_ok-made_tables.ensures c.in_ok-made_sequences.ensures
