use Rattle.ur_machine_operations.proofs.Opened.{not_text}
use Rattle.ur_emit.proofs.binding.is_text.Goals as goal

pub returns-in_default : goal.returns-in_default
returns-in_default c = not_text c.args.text.now c.args.value.now c.in_default.not-Str
