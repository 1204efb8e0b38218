use Rattle.std.proofs.Common.{◌≡◌, ◌-◌, ◌+◌, ◌<◌, ◌≤◌, [], ◌∷◌, ◌++◌, List, length, All, refl, sym, ap, subst, ◌∙◌, arith, length-append}
use Rattle.ur_base.specs.Counts.{RoseBy}
use Rattle.ur_base.specs.Rooms.{RoomOf}
use Rattle.ur_io.specs.Calls.{count_after}
use Rattle.ur_io.specs.declared.session.SessionEnd.{SessionEnd}
use Rattle.ur_serve.specs.Responding.{served_by, holding_of}
use Rattle.ur_serve.specs.Serving.{IsReadyWithin}
use Rattle.ur_serve.proofs.ServeSessions.{ready_at_start}
use Rattle.ur_headline.specs.Counting.{keeper_fault, keeper_faults, wire_faults, marks_of}
use Rattle.ur_headline.proofs.Counting.{sum_last, rose_none}
use Rattle.ur_top.proofs.Goings.{SoFar, Comes, begun, goes_on, unmoved, stays, has_served_as, none_came, one_came, serves_on, serves_all, serves_out}
use Rattle.ur_top.proofs.Goings.{counted_last, ends_as, rose_last, marks_on, marks_less, short_last, none_short, no_requests, few_requests}
use Rattle.ur_top.proofs.Goings.{ready_fewer, not_none, over_wants, not_done}
use Rattle.ur_top.specs.Serving.{HasNext, HasFewRequests}
use Rattle.ur_top.specs.declared.reporting.RunEnd.TheVariants as end
use Rattle.ur_top.specs.declared.serving.EndedServing.{EndedServing}
use Rattle.ur_top.proofs.connections.serve_connections.Goals as goal

pub returns-in_default-clause-served : goal.returns-in_default-clause-served
returns-in_default-clause-served g c =
    let told = g.W.Wire.told c.args.wire.now in
    let saved = g.K.Keeper.saved c.args.keeper.now in
    let reads = g.K.Keeper.reads c.args.keeper.now in
    has_served_as c.args.server c.args.server told told saved saved reads reads 16777216 [] end.Memory c.unserved.result c.unserved.ensures (begun c.args.server told saved reads c.requires.fresh)

pub returns-in_default-new-clause-served : goal.returns-in_default-new-clause-served
returns-in_default-new-clause-served g c =
    let told = g.W.Wire.told c.args.wire.now in
    let saved = g.K.Keeper.saved c.args.keeper.now in
    let reads = g.K.Keeper.reads c.args.keeper.now in
    has_served_as c.args.server c.args.server told told saved saved reads reads 16777216 [] end.Memory c.unserved-in_default-new.result c.unserved-in_default-new.ensures
    (begun c.args.server told saved reads c.requires.fresh)

pub returns-in_default-clause-requests : goal.returns-in_default-clause-requests
returns-in_default-clause-requests g c = subst (λ (r : EndedServing). HasFewRequests r.sessions) (sym c.unserved.ensures) no_requests

pub returns-in_default-new-clause-requests : goal.returns-in_default-new-clause-requests
returns-in_default-new-clause-requests g c = subst (λ (r : EndedServing). HasFewRequests r.sessions) (sym c.unserved-in_default-new.ensures) no_requests

pub loop-turn-init : goal.loop-turn-init
loop-turn-init g c =
    let items : c.in-Ok-new.sessions.items ≡ [] = c.in-Ok-new.ensures.empty in
    let told = g.W.Wire.told c.args.wire.now in
    let saved = g.K.Keeper.saved c.args.keeper.now in
    let reads = g.K.Keeper.reads c.args.keeper.now in
    let wires = g.W.Wire.faults c.args.wire.now in
    let keepers = g.K.Keeper.faults c.args.keeper.now in
    record {
      count = ap length items;
      room = omega (arith, c.in-Ok-new.ensures.room);
      marks = omega arith;
      total = subst (λ xs. 16777216 + marks_of xs ≤ 16777216) (sym items) (omega arith);
      short = subst (λ xs. All (λ (s : SessionEnd). length s.marks ≤ 1000) xs) (sym items) none_short;
      ready = ready_at_start c.args.server (g.K.Keeper.kept c.args.keeper.now) (g.K.Keeper.under_way c.args.keeper.now) saved 16777216 c.requires.ready c.requires.numbers c.requires.units (omega arith);
      same = refl;
      sofar = subst (λ xs. SoFar (served_by c.args.server) told saved reads xs 16777216 told (holding_of c.args.server saved reads)) (sym items) (begun c.args.server told saved reads c.requires.fresh);
      comes = subst (λ (xs : List SessionEnd). Comes told (length xs) told) (sym items) (none_came told);
      keeper_faults = subst (λ xs. RoseBy (keeper_faults xs) keepers keepers) (sym items) (rose_none keepers keepers (omega arith));
      wire_counted = subst (λ xs. wires ≡ count_after (wire_faults xs) wires) (sym items) refl;
      shut = λ some. absurd (some items);
      idle = λ e. (refl, refl);
      wire_later = omega arith;
      keeper_later = omega arith;
    }

pub returns-then-left-eq0-clause-served : goal.returns-then-left-eq0-clause-served
returns-then-left-eq0-clause-served g c =
    has_served_as c.args.server c.loop-turn.server (g.W.Wire.told c.args.wire.now) (g.W.Wire.told c.loop-turn.wire) (g.K.Keeper.saved c.args.keeper.now) (g.K.Keeper.saved c.loop-turn.keeper)
    (g.K.Keeper.reads c.args.keeper.now) (g.K.Keeper.reads c.loop-turn.keeper) c.loop-turn.left c.loop-turn.sessions.items end.Done c.served.result c.served.ensures c.loop-turn.invariant.sofar

pub returns-then-left-eq0-clause-requests : goal.returns-then-left-eq0-clause-requests
returns-then-left-eq0-clause-requests g c =
    few_requests c.loop-turn.left c.loop-turn.sessions.items end.Done c.served.result c.served.ensures c.loop-turn.invariant.total c.loop-turn.invariant.short

pub returns-in-Over-clause-requests : goal.returns-in-Over-clause-requests
returns-in-Over-clause-requests g c =
    few_requests c.loop-turn.left c.loop-turn.sessions.items c.in-Over.end c.served-in-Over.result c.served-in-Over.ensures c.loop-turn.invariant.total c.loop-turn.invariant.short

pub returns-clause-requests : goal.returns-clause-requests
returns-clause-requests g c =
    few_requests c.loop-turn.left c.loop-turn.sessions.items end.Done c.served-2.result c.served-2.ensures c.loop-turn.invariant.total c.loop-turn.invariant.short

pub returns-clause-served : goal.returns-clause-served
returns-clause-served g c =
    has_served_as c.args.server c.loop-turn.server (g.W.Wire.told c.args.wire.now) (g.W.Wire.told c.loop-turn.wire) (g.K.Keeper.saved c.args.keeper.now) (g.K.Keeper.saved c.loop-turn.keeper)
    (g.K.Keeper.reads c.args.keeper.now) (g.K.Keeper.reads c.loop-turn.keeper) c.loop-turn.left c.loop-turn.sessions.items end.Done c.served-2.result c.served-2.ensures c.loop-turn.invariant.sofar

pub returns-clause-ends : goal.returns-clause-ends
returns-clause-ends g c =
    let so = c.loop-turn.invariant in
    let told = g.W.Wire.told c.args.wire.now in
    let faults = g.W.Wire.faults c.args.wire.now in
    let faults1 = g.W.Wire.faults c.loop-turn.wire in
    let current1 = g.W.Wire.is_current c.loop-turn.wire in
    let done = c.loop-turn.sessions.items in
    ends_as c.args.most told faults faults1 current1 done end.Done c.served-2.result c.served-2.ensures
    (serves_all c.args.most told (g.W.Wire.told c.loop-turn.wire) faults faults1 current1 done (omega (arith, so.count, c.loop-turn-test.false)) (omega (arith, so.count, c.loop-turn.auto._turn-end))
    so.comes so.shut so.wire_counted)

pub returns-then-left-eq0-clause-ends : goal.returns-then-left-eq0-clause-ends
returns-then-left-eq0-clause-ends g c =
    let so = c.loop-turn.invariant in
    let told = g.W.Wire.told c.args.wire.now in
    let faults = g.W.Wire.faults c.args.wire.now in
    let faults1 = g.W.Wire.faults c.loop-turn.wire in
    let current1 = g.W.Wire.is_current c.loop-turn.wire in
    let done = c.loop-turn.sessions.items in
    ends_as c.args.most told faults faults1 current1 done end.Done c.served.result c.served.ensures
    (serves_out c.args.most c.loop-turn.left told faults faults1 current1 done (omega (arith, c.if-left-eq0.true)) so.marks so.shut so.wire_counted)

pub returns-in_default-clause-ends : goal.returns-in_default-clause-ends
returns-in_default-clause-ends g c =
    let faults = g.W.Wire.faults c.args.wire.now in
    ends_as c.args.most (g.W.Wire.told c.args.wire.now) faults faults (g.W.Wire.is_current c.args.wire.now) [] end.Memory c.unserved.result c.unserved.ensures (λ some. absurd (some refl), refl)

pub returns-in_default-new-clause-ends : goal.returns-in_default-new-clause-ends
returns-in_default-new-clause-ends g c =
    let faults = g.W.Wire.faults c.args.wire.now in
    ends_as c.args.most (g.W.Wire.told c.args.wire.now) faults faults (g.W.Wire.is_current c.args.wire.now) [] end.Memory c.unserved-in_default-new.result c.unserved-in_default-new.ensures
    (λ some. absurd (some refl), refl)

pub returns-in-Over-clause-served : goal.returns-in-Over-clause-served
returns-in-Over-clause-served g c =
    let told = g.W.Wire.told c.args.wire.now in
    let told1 = g.W.Wire.told c.loop-turn.wire in
    let told2 = g.W.Wire.told c.serve_next.new.wire in
    let saved = g.K.Keeper.saved c.args.keeper.now in
    let reads = g.K.Keeper.reads c.args.keeper.now in
    let held1 = holding_of c.loop-turn.server (g.K.Keeper.saved c.loop-turn.keeper) (g.K.Keeper.reads c.loop-turn.keeper) in
    let held2 = holding_of c.serve_next.new.server (g.K.Keeper.saved c.serve_next.new.keeper) (g.K.Keeper.reads c.serve_next.new.keeper) in
    let held = ap (λ s. holding_of s (g.K.Keeper.saved c.serve_next.new.keeper) (g.K.Keeper.reads c.serve_next.new.keeper)) c.in-Over.ensures.untouched.0
    ∙ ap (λ k. holding_of c.loop-turn.server (g.K.Keeper.saved k) (g.K.Keeper.reads k)) c.in-Over.ensures.untouched.1 in
    has_served_as c.args.server c.serve_next.new.server told told2 saved (g.K.Keeper.saved c.serve_next.new.keeper) reads (g.K.Keeper.reads c.serve_next.new.keeper) c.loop-turn.left
    c.loop-turn.sessions.items c.in-Over.end c.served-in-Over.result c.served-in-Over.ensures
    (stays (served_by c.args.server) told saved reads c.loop-turn.sessions.items c.loop-turn.left told1 told2 held1 held2 c.loop-turn.invariant.sofar
    (unmoved told1 told2 (g.W.Wire.faults c.loop-turn.wire) (g.W.Wire.faults c.serve_next.new.wire) (g.W.Wire.is_current c.loop-turn.wire) (g.W.Wire.is_current c.serve_next.new.wire) c.in-Over.end
    c.in-Over.ensures.over) held)

pub returns-in-Over-clause-ends : goal.returns-in-Over-clause-ends
returns-in-Over-clause-ends g c =
    let so = c.loop-turn.invariant in
    let told = g.W.Wire.told c.args.wire.now in
    let faults = g.W.Wire.faults c.args.wire.now in
    let faults2 = g.W.Wire.faults c.serve_next.new.wire in
    let current2 = g.W.Wire.is_current c.serve_next.new.wire in
    ends_as c.args.most told faults faults2 current2 c.loop-turn.sessions.items c.in-Over.end c.served-in-Over.result c.served-in-Over.ensures
    (serves_on c.args.most told (g.W.Wire.told c.loop-turn.wire) (g.W.Wire.told c.serve_next.new.wire) faults (g.W.Wire.faults c.loop-turn.wire) faults2 (g.W.Wire.is_current c.loop-turn.wire) current2
    c.in-Over.end c.loop-turn.sessions.items (omega (arith, so.count, c.loop-turn-test.true)) so.comes so.wire_counted so.shut c.in-Over.ensures.over)

pub returns-clause-wanting : goal.returns-clause-wanting
returns-clause-wanting g c = λ none wants. not_done c.served-2.result c.loop-turn.sessions.items _ c.served-2.ensures wants

pub returns-then-left-eq0-clause-wanting : goal.returns-then-left-eq0-clause-wanting
returns-then-left-eq0-clause-wanting g c = λ none wants. not_done c.served.result c.loop-turn.sessions.items _ c.served.ensures wants

pub returns-in_default-clause-wanting : goal.returns-in_default-clause-wanting
returns-in_default-clause-wanting g c = λ none wants. (refl, refl, refl)

pub returns-in_default-new-clause-wanting : goal.returns-in_default-new-clause-wanting
returns-in_default-new-clause-wanting g c = λ none wants. (refl, refl, refl)

pub returns-in-Over-clause-wanting : goal.returns-in-Over-clause-wanting
returns-in-Over-clause-wanting g c = λ none wants.
    let made = c.served-in-Over.ensures in
    let same = (c.loop-turn.invariant.idle (sym (ap (λ (r : EndedServing). r.sessions) made) ∙ none)).0 in
    let still = over_wants (g.W.Wire.told c.loop-turn.wire) (g.W.Wire.told c.serve_next.new.wire) (g.W.Wire.faults c.loop-turn.wire) (g.W.Wire.faults c.serve_next.new.wire)
    (g.W.Wire.is_current c.loop-turn.wire) (g.W.Wire.is_current c.serve_next.new.wire) c.in-Over.end c.in-Over.ensures.over (sym (ap (λ (r : EndedServing). r.end) made) ∙ wants) in
    (still.0 ∙ ap g.W.Wire.told same, still.1 ∙ ap g.W.Wire.faults same, still.2 ∙ ap g.W.Wire.is_current same)

pub loop-turn-preserved : goal.loop-turn-preserved
loop-turn-preserved g c =
    let so = c.loop-turn.invariant in
    let done = c.loop-turn.sessions.items in
    let s = c.in-Served.session in
    let left = c.loop-turn.left in
    let p = served_by c.args.server in
    let told = g.W.Wire.told c.args.wire.now in
    let told1 = g.W.Wire.told c.loop-turn.wire in
    let told2 = g.W.Wire.told c.serve_next.new.wire in
    let saved = g.K.Keeper.saved c.args.keeper.now in
    let reads = g.K.Keeper.reads c.args.keeper.now in
    let keepers = g.K.Keeper.faults c.args.keeper.now in
    let wires = g.W.Wire.faults c.args.wire.now in
    let keepers2 = g.K.Keeper.faults c.serve_next.new.keeper in
    let wires2 = g.W.Wire.faults c.serve_next.new.wire in
    let held1 = holding_of c.loop-turn.server (g.K.Keeper.saved c.loop-turn.keeper) (g.K.Keeper.reads c.loop-turn.keeper) in
    let held2 = holding_of c.serve_next.new.server (g.K.Keeper.saved c.serve_next.new.keeper) (g.K.Keeper.reads c.serve_next.new.keeper) in
    let items : c.push.new.self.items ≡ done ++ s ∷ [] = ap (λ (r : RoomOf SessionEnd). r.items) c.push.ensures in
    let spare : c.push.new.self.spare ≡ c.loop-turn.sessions.spare - 1 = ap (λ (r : RoomOf SessionEnd). r.spare) c.push.ensures in
    let fewer : c.saturating_sub-left.result ≡ left - length s.marks = omega (arith, c.saturating_sub-left.ensures, c.len.ensures) in
    let some : 0 < left = omega (arith, c.if-left-eq0.false) in
    let next : HasNext p left told1 held1 s told2 held2 = subst (λ q. HasNext q left told1 held1 s told2 held2) so.same c.in-Served.ensures.session in
    record {
      count = omega (arith, so.count, ap length items, length-append done (s ∷ []));
      room = omega (arith, so.room, spare);
      marks = subst (λ xs. 16777216 ≤ c.saturating_sub-left.result + marks_of xs) (sym items)
          (subst (λ n. 16777216 ≤ n + marks_of (done ++ s ∷ [])) (sym fewer) (marks_on left done s so.marks));
      total = subst (λ xs. c.saturating_sub-left.result + marks_of xs ≤ 16777216) (sym items)
          (subst (λ n. n + marks_of (done ++ s ∷ []) ≤ 16777216) (sym fewer) (marks_less left done s c.in-Served.ensures.few so.total));
      short = subst (λ xs. All (λ (s : SessionEnd). length s.marks ≤ 1000) xs) (sym items) (short_last done s so.short c.in-Served.ensures.short);
      ready = subst (λ n. IsReadyWithin 9223300000000000000 c.serve_next.new.server (g.K.Keeper.kept c.serve_next.new.keeper) (g.K.Keeper.under_way c.serve_next.new.keeper)
          (g.K.Keeper.saved c.serve_next.new.keeper) n) (sym fewer)
          (c.in-Served.ensures.ready 9223300000000000000 (left - length s.marks)
          (ready_fewer 9223300000000000000 c.loop-turn.server (g.K.Keeper.kept c.loop-turn.keeper) (g.K.Keeper.under_way c.loop-turn.keeper) (g.K.Keeper.saved c.loop-turn.keeper)
          (length s.marks + (left - length s.marks)) left (omega (arith, c.in-Served.ensures.few)) so.ready));
      same = c.serve_next.ensures.same ∙ so.same;
      sofar = subst (λ xs. SoFar p told saved reads xs c.saturating_sub-left.result told2 held2) (sym items)
          (subst (λ n. SoFar p told saved reads (done ++ s ∷ []) n told2 held2) (sym fewer) (goes_on p told saved reads done left told1 told2 held1 held2 s some so.sofar next));
      comes = subst (λ (xs : List SessionEnd). Comes told (length xs) told2) (sym items) (one_came told told1 told2 done s so.comes c.in-Served.ensures.taken);
      keeper_faults = subst (λ xs. RoseBy (keeper_faults xs) keepers keepers2) (sym items)
          (rose_last keeper_fault keeper_faults done s keepers (g.K.Keeper.faults c.loop-turn.keeper) keepers2 (sum_last keeper_fault done s) so.keeper_faults c.in-Served.ensures.keeper_fault);
      wire_counted = subst (λ xs. wires2 ≡ count_after (wire_faults xs) wires) (sym items)
          (counted_last done s wires (g.W.Wire.faults c.loop-turn.wire) wires2 so.wire_counted c.in-Served.ensures.wire_counted);
      shut = λ some. c.in-Served.ensures.shut;
      idle = λ e. absurd (not_none done s (sym items ∙ e));
      wire_later = omega (arith, so.wire_later, c.serve_next.ensures.never_fall.0);
      keeper_later = omega (arith, so.keeper_later, c.serve_next.ensures.never_fall.1);
    }
