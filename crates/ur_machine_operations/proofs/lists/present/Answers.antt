use Rattle.ur_machine_operations.proofs.Arguments.{comes_as}
use Rattle.ur_machine_operations.proofs.Doing.{does-Present}
use Rattle.ur_machine_operations.proofs.lists.present.Goals as goal

pub one-requires : goal.one-requires
one-requires c = (_, c.requires.1)

pub returns-in-Ok : goal.returns-in-Ok
returns-in-Ok c = comes_as c.built.result (does-Present _ _ _ c.one.ensures c.in-Ok.ensures) c.built.ensures
