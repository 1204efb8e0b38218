use Rattle.ur_machine_operations.proofs.Opened.{not_empty, empty_is}
use Rattle.ur_emit.proofs.binding.is_empty.Goals as goal

pub returns-in_default : goal.returns-in_default
returns-in_default c = not_empty c.args.value.now c.in_default.not-Many

pub returns-in-Many : goal.returns-in-Many
returns-in-Many c = empty_is _ _ _ c.in-Many.is c.is_empty.ensures
