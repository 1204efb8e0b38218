use Rattle.ur_typed_laws.proofs.Ending.{checked_is_typed}
use Rattle.ur_typed_laws.proofs.sound_laws_law.checked_is_typed.Goals as goal

pub returns : goal.returns
returns c = checked_is_typed c.typed_is_sound.ensures c.project_statements_fit.ensures
