use Rattle.std.proofs.Common.{◌≡◌, IsTrue, refl, sym, ap, subst, rules}
use Rattle.sqlite.specs.Held.{Held, state}
use Rattle.ur_keeper_bodies.specs.Bodies.{CanWrite, written}
use Rattle.ur_sqlkeeper.specs.Rows.{map_in}
use Rattle.ur_sqlkeeper.specs.Serving.{IsOurs, IsStill}
use Rattle.ur_sqlkeeper.proofs.Calls.{not-committed, if-err}
use Rattle.ur_sqlkeeper.proofs.writing.write.Goals as goal

pub returns-in_err-commit-clause-failed : goal.returns-in_err-commit-clause-failed
returns-in_err-commit-clause-failed g c honest serves can =
    let begun = c.transaction-transaction.ensures.begun in
    let old = c.args.conn.now in
    let started = c.transaction-transaction.result.conn.now in
    let mid = c.write_each.new.transaction.conn.now in
    let end = c.commit.new.self.0 in
    let same : end ≡ c.conn-2-1.given.0 = search rules in
    let done : IsTrue c.in_ok-write_each.field-0 = search rules in
    let inside = subst (λ (h : Held _). IsTrue (state g.S.Store h).in_transaction) (sym begun) refl in
    let ours = subst (λ (h : Held _). IsOurs (state g.S.Store h).now) (sym begun) serves.ours in
    let may = subst (λ (h : Held _). CanWrite (map_in ((state g.S.Store h).now.trees 0)) c.args.changes.now) (sym begun) can in
    let made = c.in_ok-write_each.ensures.made honest inside ours may done in
    let stays = g.met.S.Honest.stays end.store honest in
    let still = not-committed (λ m. written m c.args.changes.now) (state g.S.Store old) (state g.S.Store started) (state g.S.Store mid) (state g.S.Store end) _ serves stays.1
    (ap (λ (h : Held _). (state g.S.Store h).committed) begun) made (c.in_err-commit.ensures.err stays.0) in
    if-err _ _ (subst (λ (h : Held _). IsStill (state g.S.Store old).now (state g.S.Store h)) same still)
