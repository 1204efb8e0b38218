use Rattle.std.proofs.Common.{refl}
use Rattle.ur_rows_normal.proofs.Environs.{held-at}
use Rattle.ur_rows_normal.proofs.environment.held_at.Goals as goal

pub returns : goal.returns
returns c = held-at c.walk.result c.args.home.now c.args.known.now c.args.con.now _ refl refl refl c.walk.ensures
