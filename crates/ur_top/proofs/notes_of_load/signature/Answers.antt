use Rattle.std.proofs.Common.{refl}
use Rattle.ur_top.specs.Notes.{notes_signature}
use Rattle.ur_top.proofs.notes_of_load.signature.Goals as goal

pub returns : goal.returns
unfolding notes_signature
returns c = refl
