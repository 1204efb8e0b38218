use Rattle.std.proofs.Common.{refl}
use Rattle.ur_rows_normal.proofs.Scopes.{label-in}
use Rattle.ur_rows_normal.proofs.environment.label_in.Goals as goal

pub returns : goal.returns
returns c = label-in c.label.result c.args.place.now c.args.name.now _ refl refl refl c.label.ensures
