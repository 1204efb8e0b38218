use Rattle.std.proofs.Common.{◌≡◌, suc, ◌+◌, ◌-◌, ◌*◌, ◌==◌, [], ◌∷◌, ◌++◌, length, All, Any, None, Some, inl, inr, refl, sym, ap, subst, ◌∙◌, arith}
use Rattle.std.proofs.Common.{length-append}
use Rattle.std.proofs.lemmas.Bool.Decides.{nat_tests}
use Rattle.std.proofs.lemmas.List.Elements.{All-nil, All-push}
use Rattle.ur_base.specs.Rooms.{RoomOf}
use Rattle.ur_base.specs.Told.{WhereTold}
use Rattle.ur_io.specs.declared.session.Mark.{Mark}
use Rattle.ur_io.specs.declared.session.Mark.TheVariants as mark
use Rattle.ur_io.specs.declared.session.SessionEnd.{SessionEnd}
use Rattle.ur_http.specs.Items.{greatest_request}
use Rattle.ur_serve.specs.declared.arrivals.Arrival.TheVariants as arrival
use Rattle.ur_serve.specs.Faults.{count_at_end}
use Rattle.ur_serve.specs.Saying.{mark_of, closes_of, bytes_of, Says, IsOver}
use Rattle.ur_serve.proofs.Rounds.{InSession, HasSession, in_session-none, in_session-more, has_session-over, has_session-ended, wired_none}
use Rattle.ur_serve.proofs.Rounds.{over_not_ended, goes_on_done, not_full, keeper_last, rose_later, last_is, wired_more, wired_ended, answerable_on}
use Rattle.ur_serve.proofs.Rounds.{still_counted}
use Rattle.ur_serve.proofs.Taking.{taken_none, taken_ended, taken_round, all_before, last_said}
use Rattle.ur_serve.proofs.sessions.session.Goals as goal

pub loop-why-init : goal.loop-why-init
loop-why-init g c =
    let answers = g.A.Responder.answers (g.A.Responder.program c.args.responder.now) in
    let reaches = g.A.Responder.reaches (g.A.Responder.program c.args.responder.now) in
    let told = g.W.Wire.told c.args.wire.now in
    let state = g.A.Responder.state c.args.responder.now c.args.keeper.now in
    let none : length c.args.marks.items ≡ 0 = ap length c.requires.room.0 in
    record {
      current = c.requires.current;
      unrefused = ap (λ s. s.refused) c.clear.ensures;
      counted = refl;
      keeper_later = omega arith;
      same = refl;
      short = omega (arith, none, c.requires.some);
      room = omega (arith, c.requires.room.1);
      done = subst (All (λ m. m ≡ mark.Done)) (sym c.requires.room.0) (All-nil (λ m. m ≡ mark.Done));
      ready = λ bound n r. subst (λ k. g.A.Responder.is_ready bound c.args.responder.now c.args.keeper.now k) (omega (arith, none)) r;
      wired = wired_none told;
      taken = taken_none told (length c.args.marks.items * greatest_request);
      sofar = subst (InSession answers reaches g.A.Responder.kept c.args.most told state told state c.clear.new.self.left) (sym c.requires.room.0)
          (in_session-none answers reaches g.A.Responder.kept c.args.most told state c.clear.new.self.left (ap (λ s. s.left) c.clear.ensures));
    }

pub returns-in-Ended-clause-session : goal.returns-in-Ended-clause-session
returns-in-Ended-clause-session g c =
    let answers = g.A.Responder.answers (g.A.Responder.program c.args.responder.now) in
    let reaches = g.A.Responder.reaches (g.A.Responder.program c.args.responder.now) in
    let told0 = g.W.Wire.told c.args.wire.now in
    let state0 = g.A.Responder.state c.args.responder.now c.args.keeper.now in
    let told1 = g.W.Wire.told c.loop-why.wire in
    let told2 = g.W.Wire.told c.next_arrival-arrival.new.wire in
    let state1 = g.A.Responder.state c.loop-why.responder c.loop-why.keeper in
    subst (HasSession answers reaches g.A.Responder.kept c.args.most told0 state0 told2 state1) (sym c.ended.ensures)
    (has_session-ended answers reaches g.A.Responder.kept c.args.most told0 told1 told2 state0 state1 c.loop-why.splitter.left c.next_arrival-arrival.new.splitter.left c.loop-why.marks.items c.in-Ended.why
    c.loop-why.invariant.sofar c.in-Ended.ensures.comes c.loop-why.invariant.short)

pub returns-in-Ended-clause-counted : goal.returns-in-Ended-clause-counted
returns-in-Ended-clause-counted g c =
    let why : c.ended.result.why ≡ c.in-Ended.why = ap (λ (e : SessionEnd). e.why) c.ended.ensures in
    subst (λ w. g.W.Wire.faults c.next_arrival-arrival.new.wire ≡ count_at_end w (g.W.Wire.faults c.args.wire.now)) (sym why)
    (c.in-Ended.ensures.counted ∙ ap (count_at_end c.in-Ended.why) c.loop-why.invariant.counted)

pub returns-in-Ended-clause-few : goal.returns-in-Ended-clause-few
returns-in-Ended-clause-few g c = omega (arith, c.loop-why.invariant.short, ap (λ (e : SessionEnd). length e.marks) c.ended.ensures)

pub returns-in-Ended-clause-coming : goal.returns-in-Ended-clause-coming
returns-in-Ended-clause-coming g c =
    wired_ended (g.W.Wire.told c.args.wire.now) (g.W.Wire.told c.loop-why.wire) (g.W.Wire.told c.next_arrival-arrival.new.wire) c.loop-why.splitter.left c.next_arrival-arrival.new.splitter.left
    (arrival.Ended c.in-Ended.why) c.loop-why.invariant.wired c.in-Ended.ensures.comes

pub returns-in-Ended-clause-last : goal.returns-in-Ended-clause-last
returns-in-Ended-clause-last g c =
    let all : c.ended.result.marks ≡ c.loop-why.marks.items = ap (λ (e : SessionEnd). e.marks) c.ended.ensures in
    λ before m is. all_before c.loop-why.marks.items before m c.loop-why.invariant.done (sym all ∙ is)

pub returns-in-Ended-clause-taken : goal.returns-in-Ended-clause-taken
returns-in-Ended-clause-taken g c =
    taken_ended (g.W.Wire.told c.args.wire.now) (g.W.Wire.told c.loop-why.wire) (g.W.Wire.told c.next_arrival-arrival.new.wire) (length c.loop-why.marks.items) c.args.most greatest_request
    c.loop-why.invariant.taken c.in-Ended.ensures.taken c.loop-why.invariant.short

pub reply-said-requires : goal.reply-said-requires
reply-said-requires g c = record {
  ready =
      let n = c.args.most - length c.loop-why.marks.items - 1 in (
        c.requires.ready.0,
        (
          n,
          c.loop-why.invariant.ready c.requires.ready.0 (suc n)
              (subst (λ k. g.A.Responder.is_ready c.requires.ready.0 c.args.responder.now c.args.keeper.now k) (omega (arith, c.loop-why.invariant.short)) c.requires.ready.1),
        ),
      );
  answerable = (c.next_arrival-arrival.new.splitter.refused, c.next_arrival-arrival.ensures.answerable);
  text = c.next_arrival-arrival.ensures.text;
}

pub returns-in-Some : goal.returns-in-Some
returns-in-Some g c =
    let answers = g.A.Responder.answers (g.A.Responder.program c.args.responder.now) in
    let reaches = g.A.Responder.reaches (g.A.Responder.program c.args.responder.now) in
    let kept = g.A.Responder.kept in
    let most = c.args.most in
    let marks = c.loop-why.marks.items in
    let came = c.next_arrival-arrival.result in
    let what = c.reply-said.result in
    let told0 = g.W.Wire.told c.args.wire.now in
    let told1 = g.W.Wire.told c.loop-why.wire in
    let told2 = g.W.Wire.told c.next_arrival-arrival.new.wire in
    let told3 = g.W.Wire.told c.say-over.new.wire in
    let state0 = g.A.Responder.state c.args.responder.now c.args.keeper.now in
    let state1 = g.A.Responder.state c.loop-why.responder c.loop-why.keeper in
    let state2 = g.A.Responder.state c.reply-said.new.responder c.reply-said.new.keeper in
    let held = c.loop-why.splitter.left in
    let held' = c.next_arrival-arrival.new.splitter.left in
    let so = c.loop-why.invariant in
    let set : c.say-over.new.marks.items ≡ marks ++ mark_of what ∷ [] = ap (λ (m : RoomOf Mark). m.items) c.say-over.ensures.marks in
    let long : length c.say-over.new.marks.items ≡ length marks + 1 = ap length set ∙ length-append marks (mark_of what ∷ []) in
    let by_program = subst (λ p. WhereTold state1 (λ s. Says (g.A.Responder.answers p) (g.A.Responder.reaches p) kept s came (length c.items.result.now + 1 == most) what state2)) so.same c.reply-said.ensures.says in
    let says = subst (λ b. WhereTold state1 (λ s. Says answers reaches kept s came b what state2)) (last_is c.items.result.now marks most c.items.ensures) by_program in
    let over = subst (λ m. IsOver (length m == most) (closes_of what) (Some c.in-Some.why)) set c.in-Some.ensures.over in
    let is : c.ended-in-Some.result ≡ record { marks = marks ++ mark_of what ∷ []; why = c.in-Some.why } =
    c.ended-in-Some.ensures ∙ ap (λ (m : RoomOf Mark). record { marks = m.items; why = c.in-Some.why }) c.say-over.ensures.marks in
    let why : c.ended-in-Some.result.why ≡ c.in-Some.why = ap (λ (e : SessionEnd). e.why) is in
    let all : c.ended-in-Some.result.marks ≡ marks ++ mark_of what ∷ [] = ap (λ (e : SessionEnd). e.marks) is in
    let count : length c.ended-in-Some.result.marks ≡ length marks + 1 = ap length all ∙ length-append marks (mark_of what ∷ []) in
    record {
      session = subst (HasSession answers reaches kept most told0 state0 told3 state2) (sym is)
          (has_session-over answers reaches kept most told0 told1 told2 told3 state0 state1 state2 held held' marks came what c.in-Some.why
          so.sofar c.next_arrival-arrival.ensures.comes so.short says c.in-Some.ensures.writes over);
      keeper = λ any. rose_later (g.A.Responder.faults c.args.keeper.now) (g.A.Responder.faults c.loop-why.keeper) (g.A.Responder.faults c.reply-said.new.keeper) so.keeper_later
          (c.reply-said.ensures.keeper (keeper_last marks what so.done (subst (Any (λ m. m ≡ mark.Keeper)) all any)));
      wire = λ e. rose_later (g.W.Wire.faults c.args.wire.now) (g.W.Wire.faults c.next_arrival-arrival.new.wire) (g.W.Wire.faults c.say-over.new.wire)
          (omega (arith, so.counted, c.next_arrival-arrival.ensures.later)) (c.in-Some.ensures.wire (ap Some (sym why ∙ e)));
      counted = subst (λ w. g.W.Wire.faults c.say-over.new.wire ≡ count_at_end w (g.W.Wire.faults c.args.wire.now)) (sym why)
          (c.in-Some.ensures.counted ∙ ap (count_at_end c.in-Some.why)
          (still_counted came (g.W.Wire.faults c.next_arrival-arrival.new.wire) (g.W.Wire.faults c.loop-why.wire) c.in_default.not-Ended c.next_arrival-arrival.ensures.counted ∙ so.counted));
      ended = λ e. absurd (over_not_ended (length (marks ++ mark_of what ∷ []) == most) (closes_of what) c.in-Some.why over
          (elim e [ inl x ↦ inl (sym why ∙ x) | inr x ↦ inr (sym why ∙ x) ]));
      current = c.in-Some.ensures.current;
      few = omega (arith, count, so.short);
      coming = wired_more told0 told1 told2 told3 held held' (bytes_of what) came (Some c.in-Some.why) so.wired c.next_arrival-arrival.ensures.comes c.in-Some.ensures.writes;
      last = λ before m is. last_said marks (mark_of what) before m so.done (sym all ∙ is);
      taken = taken_round told0 told1 told2 told3 (bytes_of what) (Some c.in-Some.why) (length marks) most greatest_request so.taken c.next_arrival-arrival.ensures.taken c.in-Some.ensures.writes so.short;
      ready = λ bound n r. c.reply-said.ensures.ready bound n (so.ready bound (suc n)
          (subst (λ k. g.A.Responder.is_ready bound c.args.responder.now c.args.keeper.now k) (omega (arith, count)) r));
      same = c.reply-said.ensures.same ∙ so.same;
      never_fall = (omega (arith, so.keeper_later, c.reply-said.ensures.later), omega (arith, so.counted, c.next_arrival-arrival.ensures.later, c.in-Some.ensures.later));
    }

pub loop-why-preserved : goal.loop-why-preserved
loop-why-preserved g c =
    let answers = g.A.Responder.answers (g.A.Responder.program c.args.responder.now) in
    let reaches = g.A.Responder.reaches (g.A.Responder.program c.args.responder.now) in
    let kept = g.A.Responder.kept in
    let most = c.args.most in
    let marks = c.loop-why.marks.items in
    let came = c.next_arrival-arrival.result in
    let what = c.reply-said.result in
    let told0 = g.W.Wire.told c.args.wire.now in
    let told1 = g.W.Wire.told c.loop-why.wire in
    let told2 = g.W.Wire.told c.next_arrival-arrival.new.wire in
    let told3 = g.W.Wire.told c.say-over.new.wire in
    let state0 = g.A.Responder.state c.args.responder.now c.args.keeper.now in
    let state1 = g.A.Responder.state c.loop-why.responder c.loop-why.keeper in
    let state2 = g.A.Responder.state c.reply-said.new.responder c.reply-said.new.keeper in
    let held = c.loop-why.splitter.left in
    let held' = c.next_arrival-arrival.new.splitter.left in
    let so = c.loop-why.invariant in
    let set : c.say-over.new.marks.items ≡ marks ++ mark_of what ∷ [] = ap (λ (m : RoomOf Mark). m.items) c.say-over.ensures.marks in
    let long : length c.say-over.new.marks.items ≡ length marks + 1 = ap length set ∙ length-append marks (mark_of what ∷ []) in
    let by_program = subst (λ p. WhereTold state1 (λ s. Says (g.A.Responder.answers p) (g.A.Responder.reaches p) kept s came (length c.items.result.now + 1 == most) what state2)) so.same c.reply-said.ensures.says in
    let says = subst (λ b. WhereTold state1 (λ s. Says answers reaches kept s came b what state2)) (last_is c.items.result.now marks most c.items.ensures) by_program in
    let kept_on = not_full (length c.say-over.new.marks.items == most) (closes_of what) c.in-None.ensures.over in
    let spare : c.say-over.new.marks.spare ≡ c.loop-why.marks.spare - 1 = ap (λ (m : RoomOf Mark). m.spare) c.say-over.ensures.marks in
    record {
      current = c.in-None.ensures.current;
      unrefused = answerable_on came c.next_arrival-arrival.new.splitter.refused (length c.say-over.new.marks.items == most) (closes_of what) c.next_arrival-arrival.ensures.answerable
          c.reply-said.ensures.closing c.in-None.ensures.over;
      counted = c.in-None.ensures.counted ∙ still_counted came (g.W.Wire.faults c.next_arrival-arrival.new.wire) (g.W.Wire.faults c.loop-why.wire) c.in_default.not-Ended c.next_arrival-arrival.ensures.counted ∙ so.counted;
      keeper_later = omega (arith, so.keeper_later, c.reply-said.ensures.later);
      same = c.reply-said.ensures.same ∙ so.same;
      short = grind (arith, nat_tests, kept_on, long, so.short);
      room = omega (arith, so.room, so.short, long, spare);
      done = subst (All (λ m. m ≡ mark.Done)) (sym set)
          (All-push (λ m. m ≡ mark.Done) marks (mark_of what) so.done (goes_on_done (length c.say-over.new.marks.items == most) what c.in-None.ensures.over));
      ready = λ bound n r. c.reply-said.ensures.ready bound n (so.ready bound (suc n)
          (subst (λ k. g.A.Responder.is_ready bound c.args.responder.now c.args.keeper.now k) (omega (arith, long)) r));
      wired = wired_more told0 told1 told2 told3 held held' (bytes_of what) came None so.wired c.next_arrival-arrival.ensures.comes c.in-None.ensures.writes;
      taken = taken_round told0 told1 told2 told3 (bytes_of what) None (length marks) (length c.say-over.new.marks.items) greatest_request so.taken c.next_arrival-arrival.ensures.taken
          c.in-None.ensures.writes (omega (arith, long));
      sofar = subst (InSession answers reaches kept most told0 state0 told3 state2 held') (sym set)
          (in_session-more answers reaches kept most told0 told1 told2 told3 state0 state1 state2 held held' marks came what (length c.say-over.new.marks.items == most)
          so.sofar c.next_arrival-arrival.ensures.comes so.short says c.in-None.ensures.writes c.in-None.ensures.over);
    }
