use Rattle.std.proofs.Common.{refl}
use Rattle.ur_rows_normal.proofs.Scopes.{without-last}
use Rattle.ur_rows_normal.proofs.environment.Prepared.pop.Goals as goal

pub returns : goal.returns
returns c = λ env e s v. without-last c.args.self.now _ c.pop-latest.result c.pop-latest.ensures refl env e s v
