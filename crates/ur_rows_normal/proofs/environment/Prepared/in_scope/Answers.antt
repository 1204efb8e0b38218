use Rattle.ur_rows_normal.proofs.Scopes.{in-scope}
use Rattle.ur_rows_normal.proofs.environment.Prepared.in_scope.Goals as goal

pub returns : goal.returns
returns c = λ env s. in-scope c.args.self.now env c.as_slice.result.now c.as_slice.ensures s
