use Rattle.ur_typed_laws.proofs.All.{typed_is_sound}
use Rattle.ur_typed_laws.proofs.law.typed_is_sound.Goals as goal

pub returns : goal.returns
returns c = typed_is_sound
