use Rattle.ur_machine_operations.proofs.Arguments.{only, none_is_none}
use Rattle.ur_machine_operations.proofs.operands.one.Goals as goal

pub unreachable-requires : goal.unreachable-requires
unreachable-requires c = none_is_none _ c.requires.0 c.requires.1 c.in-None.ensures.0

pub returns : goal.returns
returns c = only _ _ _ c.requires.0 c.requires.1 c.in-Some.ensures
