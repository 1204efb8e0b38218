use Rattle.std.proofs.Common.{◌≡◌, [], ◌∷◌, ap, rules}
use Rattle.sqlite.specs.declared.types.Value.TheVariants.{Int, Blob}
use Rattle.sqlite.specs.Order.{Row}
use Rattle.sqlite.specs.Value.{owned}
use Rattle.sqlite.specs.Values.{bound_value}
use Rattle.std.proofs.Common.{subst}
use Rattle.sqlite.specs.State.{ExecutesInside}
use Rattle.sqlite.specs.Held.{Held, state}
use Rattle.ur_sqlkeeper.specs.Table.{add_text}
use Rattle.ur_sqlkeeper.proofs.Calls.{add-makes, inside-keeps}
use Rattle.ur_sqlkeeper.proofs.statements.add.Goals as goal

pub returns-clause-made : goal.returns-clause-made
returns-clause-made g c honest inside ours can ok =
    let old = state g.S.Store c.args.transaction.now.conn.now in
    let new = state g.S.Store c.execute.new.self.conn.now in
    let p0 : owned c.params-to_sql.result ≡ Int c.args.tab = search rules in
    let p1 : owned c.params-to_sql-2.result ≡ Int c.args.num = search rules in
    let p2 : owned c.params-to_sql-3.result ≡ Blob c.args.body.now = search rules in
    let params : ◌≡◌ {A = Row} (bound_value (owned c.params-to_sql.result) ∷ bound_value (owned c.params-to_sql-2.result) ∷ bound_value (owned c.params-to_sql-3.result) ∷ []) (Int c.args.tab ∷ Int c.args.num ∷ Blob c.args.body.now ∷ []) = λ i. bound_value (p0 i) ∷ bound_value (p1 i) ∷ bound_value (p2 i) ∷ [] in
    add-makes old new c.args.tab c.args.num c.args.body.now c.execute.result ours can ok
    (subst (λ (ps : Row). ExecutesInside 0 add_text ps old new c.execute.result) params (c.execute.ensures.runs (g.met.S.Honest.stays c.execute.new.self.conn.now.store honest).0 inside))

pub returns-clause-kept : goal.returns-clause-kept
returns-clause-kept g c honest =
    let old = c.args.transaction.now.conn.now in
    let new = c.execute.new.self.conn.now in
    let stays = g.met.S.Honest.stays new.store honest in
    inside-keeps (state g.S.Store old) (state g.S.Store new) _ _ c.execute.result stays.1
    (λ ended. ap (λ (h : Held _). (state g.S.Store h).committed) (c.execute.ensures.ended ended).1) (c.execute.ensures.runs stays.0)
