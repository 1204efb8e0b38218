use Rattle.std.proofs.Common.{◌≡◌, [], ◌∷◌, rules}
use Rattle.sqlite.specs.declared.types.Value.TheVariants.{Int}
use Rattle.sqlite.specs.Order.{Row}
use Rattle.sqlite.specs.Value.{owned}
use Rattle.sqlite.specs.Values.{bound_value}
use Rattle.std.proofs.Common.{IfOk, IfErr, subst}
use Rattle.sqlite.specs.State.{Shown, FailsToQuery}
use Rattle.sqlite.specs.Held.{state}
use Rattle.ur_sqlkeeper.specs.Table.{read_text}
use Rattle.ur_sqlkeeper.proofs.Calls.{table-rows, table-still}
use Rattle.ur_sqlkeeper.proofs.statements.rows_of.Goals as goal

pub returns-clause-rows : goal.returns-clause-rows
returns-clause-rows g c honest ours =
    let old = state g.S.Store c.args.conn.now in
    let new = state g.S.Store c.query_all.new.self in
    let p0 : owned c.params-to_sql.result ≡ Int c.args.tab = search rules in
    let params : ◌≡◌ {A = Row} (bound_value (owned c.params-to_sql.result) ∷ []) (Int c.args.tab ∷ []) = λ i. bound_value (p0 i) ∷ [] in
    table-rows (λ rows. rows.items) c.query_all.result old new c.args.tab ours
    (subst (λ (ps : Row). IfOk c.query_all.result (λ rows. Shown read_text ps old new rows.items)) params (c.query_all.ensures.ok (g.met.S.Honest.stays c.query_all.new.self.store honest).0))

pub returns-clause-still : goal.returns-clause-still
returns-clause-still g c honest serves =
    let old = state g.S.Store c.args.conn.now in
    let new = state g.S.Store c.query_all.new.self in
    let stays = g.met.S.Honest.stays c.query_all.new.self.store honest in
    let p0 : owned c.params-to_sql.result ≡ Int c.args.tab = search rules in
    let params : ◌≡◌ {A = Row} (bound_value (owned c.params-to_sql.result) ∷ []) (Int c.args.tab ∷ []) = λ i. bound_value (p0 i) ∷ [] in
    table-still (λ rows. rows.items) c.query_all.result old new c.args.tab serves stays.1
    (subst (λ (ps : Row). IfOk c.query_all.result (λ rows. Shown read_text ps old new rows.items)) params (c.query_all.ensures.ok stays.0))
    (subst (λ (ps : Row). IfErr c.query_all.result (FailsToQuery read_text ps old new)) params (c.query_all.ensures.err stays.0))
