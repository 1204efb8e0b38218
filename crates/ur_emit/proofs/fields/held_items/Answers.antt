use Rattle.ur_emit.proofs.InPlace.{held_rows, held_within}
use Rattle.ur_emit.proofs.fields.held_items.Goals as goal

pub returns-in-Rows : goal.returns-in-Rows
returns-in-Rows c = held_rows c.args.slot.now c.in-Rows.items c.in-Rows.is

pub returns-in-Value : goal.returns-in-Value
returns-in-Value c = held_within c.args.slot.now c.in-Value.value c.items_of.result c.in-Value.is c.items_of.ensures
