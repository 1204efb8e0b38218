use Rattle.ur_keeper_kept.proofs.Telling.{tells-store}
use Rattle.ur_keeper_kept.proofs.laws.bodies_tell.Goals as goal

pub returns : goal.returns
returns g c k is = tells-store _ _ k.schema (g.met.B.Bodies.is_told k.bodies) is
