use Rattle.std.proofs.Common.{refl}
use Rattle.ur_top.specs.Notes.{notes_project}
use Rattle.ur_top.proofs.notes_of_load.project.Goals as goal

pub returns : goal.returns
unfolding notes_project
returns c = refl
