use Rattle.ur_keeper_bodies.proofs.RowLaws.{row-read-back}
use Rattle.ur_keeper_bodies.proofs.row.rows_are_read_back.Goals as goal

pub returns : goal.returns
returns c = λ kinds row m. row-read-back kinds row m.fits m.sizes
