use Rattle.ur_terms.specs.Values.{as_items}
use Rattle.ur_machine_operations.proofs.Arguments.{comes_as}
use Rattle.ur_machine_operations.proofs.Doing.{second_there, does-Cons}
use Rattle.ur_machine_operations.proofs.lists.cons.Goals as goal

pub two-item-requires : goal.two-item-requires
two-item-requires c = (_, c.requires.1)

pub into_items-requires : goal.into_items-requires
into_items-requires c = second_there as_items _ _ _ _ c.requires.1 c.two-item.ensures

pub returns-in-Ok : goal.returns-in-Ok
returns-in-Ok c = comes_as c.built.result (does-Cons _ _ _ _ _ c.two-item.ensures c.into_items.ensures c.in-Ok.ensures) c.built.ensures
