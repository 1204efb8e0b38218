use Rattle.std.proofs.Common.{refl}
use Rattle.ur_top.specs.Notes.{notes_module}
use Rattle.ur_top.proofs.notes_of_load.module.Goals as goal

pub returns : goal.returns
unfolding notes_module
returns c = refl
