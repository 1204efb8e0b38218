use Rattle.ur_rows_normal.proofs.Scopes.{bound}
use Rattle.ur_rows_normal.proofs.environment.Layer.bind.Goals as goal

pub returns-clause-ok : goal.returns-clause-ok
returns-clause-ok c = λ place env s. bound c.args.self.now _ place env c.args.name.now c.args.kind.now c.in_ok-name.name c.in_ok-form.form c.in_ok-form.ensures c.in_ok-name.ensures c.in_ok-push.ensures.ok c.in_ok-variables.ensures s
