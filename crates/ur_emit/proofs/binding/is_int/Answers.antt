use Rattle.ur_machine_operations.proofs.Opened.{not_int}
use Rattle.ur_emit.proofs.binding.is_int.Goals as goal

pub returns-in_default : goal.returns-in_default
returns-in_default c = not_int c.args.number c.args.value.now c.in_default.not-Int
