use Rattle.std.proofs.Common.{refl}
use Rattle.ur_machine_operations.proofs.Opened.{not_cons}
use Rattle.ur_emit.proofs.binding.bind_cons.Goals as goal

pub returns-in_default : goal.returns-in_default
returns-in_default c = (not_cons c.args.value.now c.in_default.not-Many, refl)
