use Rattle.ur_machine_operations.proofs.Opened.{not_absent}
use Rattle.ur_emit.proofs.binding.is_absent.Goals as goal

pub returns-in_default : goal.returns-in_default
returns-in_default c = not_absent c.args.value.now c.in_default.not-Absent
