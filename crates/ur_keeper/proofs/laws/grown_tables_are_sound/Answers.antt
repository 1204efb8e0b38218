use Rattle.ur_keeper.proofs.Grown.{grown-sound}
use Rattle.ur_keeper.proofs.laws.grown_tables_are_sound.Goals as goal

pub returns : goal.returns
returns c = grown-sound
