use Rattle.ur_machine_operations.proofs.Opened.{not_bool}
use Rattle.ur_emit.proofs.binding.is_bool.Goals as goal

pub returns-in_default : goal.returns-in_default
returns-in_default c = not_bool c.args.truth c.args.value.now c.in_default.not-Bool
