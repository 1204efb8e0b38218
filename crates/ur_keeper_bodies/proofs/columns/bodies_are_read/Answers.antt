use Rattle.ur_keeper_bodies.proofs.Cells.{body-read}
use Rattle.ur_keeper_bodies.proofs.Inverse.{read-body}
use Rattle.ur_keeper_bodies.proofs.columns.bodies_are_read.Goals as goal

pub returns : goal.returns
returns c = λ columns named row bytes low. (read-body columns bytes row low, body-read columns row bytes named)
