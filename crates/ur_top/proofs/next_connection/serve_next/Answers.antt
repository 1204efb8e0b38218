use Rattle.std.proofs.Common.{◌≡◌, min, true, sym, ap, subst, ◌∙◌, arith}
use Rattle.ur_base.specs.Counts.{RoseBy}
use Rattle.ur_base.specs.Told.{WhereTold}
use Rattle.ur_io.specs.declared.session.SessionEnd.{SessionEnd}
use Rattle.ur_io.specs.Calls.{count_after}
use Rattle.ur_io.specs.Traffic.{Opens}
use Rattle.ur_serve.specs.Faults.{count_at_end}
use Rattle.ur_serve.specs.Responding.{served_by, holding_of}
use Rattle.ur_headline.specs.Counting.{keeper_fault, is_wire}
use Rattle.ur_top.proofs.Sessioned.{HasSession, next_session, next_taken, keeper_rose, wire_counted}
use Rattle.ur_top.proofs.next_connection.serve_next.Goals as goal

pub returns-clause-session : goal.returns-clause-session
returns-clause-session g c =
    let p = served_by c.args.server.now in
    let told0 = g.W.Wire.told c.args.wire.now in
    let told1 = g.W.Wire.told c.next.new.self in
    let told2 = g.W.Wire.told c.session-end.new.wire in
    let told3 = g.W.Wire.told c.shut.new.self in
    let held0 = holding_of c.args.server.now (g.K.Keeper.saved c.args.keeper.now) (g.K.Keeper.reads c.args.keeper.now) in
    let held1 = holding_of c.session-end.new.responder (g.K.Keeper.saved c.session-end.new.keeper) (g.K.Keeper.reads c.session-end.new.keeper) in
    let opens : WhereTold told0 (λ t. Opens t true told1) = subst (λ b. WhereTold told0 (λ t. Opens t b told1)) c.in-Ok-true.field-0-test c.in-Ok-true.ensures.contents in
    let most : c.min-most.result ≡ min 1000 c.args.left = omega (arith, c.min-most.ensures) in
    next_session p c.args.left told0 told1 told2 told3 held0 held1 c.session-end.result c.trimmed.result opens
    (subst (λ n. HasSession p n told1 held0 c.session-end.result told2 held1) most c.session-end.ensures.session) c.shut.ensures.contents c.trimmed.ensures

pub returns-clause-taken : goal.returns-clause-taken
returns-clause-taken g c =
    let told0 = g.W.Wire.told c.args.wire.now in
    let told1 = g.W.Wire.told c.next.new.self in
    next_taken told0 told1 (g.W.Wire.told c.session-end.new.wire) (g.W.Wire.told c.shut.new.self)
    (subst (λ b. WhereTold told0 (λ t. Opens t b told1)) c.in-Ok-true.field-0-test c.in-Ok-true.ensures.contents) c.session-end.ensures.coming c.shut.ensures.contents

pub returns-clause-wire_counted : goal.returns-clause-wire_counted
returns-clause-wire_counted g c =
    let old = g.W.Wire.faults c.args.wire.now in
    let new = g.W.Wire.faults c.shut.new.self in
    let opened : g.W.Wire.faults c.next.new.self ≡ old = c.in-Ok-true.ensures.counts.1 in
    let counted : new ≡ count_at_end c.session-end.result.why old =
    c.shut.ensures.counts ∙ c.session-end.ensures.counted ∙ ap (count_at_end c.session-end.result.why) opened in
    subst (λ (s : SessionEnd). new ≡ count_after (is_wire s.why) old) (sym c.trimmed.ensures) (counted ∙ wire_counted c.session-end.result.why old)

pub returns-clause-keeper_fault : goal.returns-clause-keeper_fault
returns-clause-keeper_fault g c =
    let old = g.K.Keeper.faults c.args.keeper.now in
    let new = g.K.Keeper.faults c.session-end.new.keeper in
    subst (λ (s : SessionEnd). RoseBy (keeper_fault s) old new) (sym c.trimmed.ensures) (keeper_rose c.session-end.result old new c.session-end.ensures.keeper c.session-end.ensures.never_fall.0)
