use Rattle.std.proofs.Common.{refl}
use Rattle.ur_rows_normal.proofs.Scopes.{held-in}
use Rattle.ur_rows_normal.proofs.environment.held_in.Goals as goal

pub returns : goal.returns
returns c = held-in c.walk.result c.args.place.now c.args.con.now _ refl refl refl c.walk.ensures
