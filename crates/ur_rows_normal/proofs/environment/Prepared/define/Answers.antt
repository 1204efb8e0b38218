use Rattle.std.proofs.Common.{refl}
use Rattle.ur_rows_normal.proofs.Scopes.{defined}
use Rattle.ur_rows_normal.proofs.environment.Prepared.define.Goals as goal

pub returns-clause-ok : goal.returns-clause-ok
returns-clause-ok c = λ env k s. defined c.args.self.now _ env c.as_slice.result.now c.args.home.now c.args.name.now k c.args.con.now (record { name = c.in_ok-name.name; held = c.in_ok-held.held }) refl c.as_slice.ensures
    c.in_ok-held.ensures refl c.in_ok-name.ensures c.in_ok-push.ensures.ok s
