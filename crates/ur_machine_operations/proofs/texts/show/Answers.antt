use Rattle.ur_terms.specs.Values.{shown}
use Rattle.ur_machine_operations.proofs.Arguments.{comes_as}
use Rattle.ur_machine_operations.proofs.Doing.{only_there, does-Show}
use Rattle.ur_machine_operations.proofs.texts.show.Goals as goal

pub one-requires : goal.one-requires
one-requires c = (_, c.requires.1)

pub shown-requires : goal.shown-requires
shown-requires c = only_there shown _ _ _ c.requires.1 c.one.ensures

pub returns-in-Ok : goal.returns-in-Ok
returns-in-Ok c = comes_as c.built.result (does-Show _ _ _ c.one.ensures c.in-Ok.ensures) c.built.ensures
