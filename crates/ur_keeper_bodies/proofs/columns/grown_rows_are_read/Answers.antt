use Rattle.ur_keeper_bodies.proofs.Growing.{grown-read}
use Rattle.ur_keeper_bodies.proofs.columns.grown_rows_are_read.Goals as goal

pub returns : goal.returns
returns c = grown-read
