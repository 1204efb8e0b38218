use Rattle.ur_keeper_bodies.proofs.Cells.{columns-read-back}
use Rattle.ur_keeper_bodies.proofs.columns.rows_of_columns_are_read_back.Goals as goal

pub returns : goal.returns
returns c = λ columns row short m. columns-read-back columns row short m.fits m.sizes
