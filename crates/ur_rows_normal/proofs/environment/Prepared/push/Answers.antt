use Rattle.std.proofs.Common.{refl}
use Rattle.ur_rows_normal.proofs.Scopes.{pushed}
use Rattle.ur_rows_normal.proofs.environment.Prepared.push.Goals as goal

pub returns-clause-ok : goal.returns-clause-ok
returns-clause-ok c = λ env s. pushed c.args.self.now _ env c.as_slice.result.now c.args.entry.now (record { name = c.in_ok-name.name; held = c.in_ok-held.held }) refl c.as_slice.ensures c.in_ok-held.ensures
    c.in_ok-variables.ensures c.in_ok-name.ensures c.in_ok-push.ensures.ok s
