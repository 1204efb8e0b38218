use Rattle.ur_rows_normal.proofs.Scopes.{no-layer}
use Rattle.ur_rows_normal.proofs.environment.Layer.new.Goals as goal

pub returns : goal.returns
returns c = λ env s. no-layer c.args.place.now c.new.result env c.new.ensures s
