use Rattle.ur_rows_normal.proofs.Scopes.{over-place}
use Rattle.ur_rows_normal.proofs.environment.Layer.over.Goals as goal

pub returns : goal.returns
returns c = λ env s. over-place c.args.self.now c.args.place.now env c.as_slice.result.now c.as_slice.ensures s
