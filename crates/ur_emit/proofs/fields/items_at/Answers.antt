use Rattle.ur_emit.proofs.InPlace.{finds_items, items_within}
use Rattle.ur_emit.proofs.fields.items_at.Goals as goal

pub returns-in-Some : goal.returns-in-Some
returns-in-Some c = finds_items c.args.slots.now c.args.term.now c.in-Variable.number c.in-Some.slot.now c.held_items.result c.in-Variable.is
    c.in-Some.ensures c.held_items.ensures

pub returns-in-Some-value_at : goal.returns-in-Some-value_at
returns-in-Some-value_at c = items_within c.args.slots.now c.args.term.now c.in-Some-value_at.value.now c.items_of.result c.in-Some-value_at.ensures
    c.items_of.ensures
