-- A session so far, and what a round makes of it.
use Rattle.std.proofs.Common.{◌≡◌, ℕ, suc, ◌+◌, ◌≤◌, All, Any, ◌<◌, ◌==◌, Bool, true, false, ◌||◌, List, [], ◌∷◌, ◌++◌, length, Option, Some, None}
use Rattle.std.proofs.Common.{inl, inr, ◌⊎◌, refl, sym, ap, subst, ◌∙◌, arith, append-nil, append_assoc}
use Rattle.std.proofs.lemmas.Bool.Decides.{nat_tests}
use Rattle.std.proofs.lemmas.List.Elements.{All-push, All-weaker}
use Rattle.ur_base.specs.Counts.{Rose}
use Rattle.ur_base.specs.Told.{WhereTold, Tells}
use Rattle.ur_io.proofs.Pieces.{onto_wire}
use Rattle.ur_io.specs.Traffic.{Traffic, onto_last, after_write}
use Rattle.ur_io.specs.declared.session.Mark.{Mark}
use Rattle.ur_io.specs.declared.session.Mark.TheVariants as mark
use Rattle.ur_io.specs.declared.session.SessionEnd.{SessionEnd}
use Rattle.ur_io.specs.declared.session.Why.{Why}
use Rattle.ur_io.specs.declared.session.Why.TheVariants.{End, Truncated, Closed, Full, Wire}
use Rattle.ur_http.specs.declared.request.HttpRequest.{HttpRequest}
use Rattle.ur_http.specs.Answers.{fixed, status_answer}
use Rattle.ur_serve.specs.Faults.{count_at_arrival}
use Rattle.ur_serve.specs.declared.responder.Reply.TheVariants as reply
use Rattle.ur_serve.specs.declared.arrivals.Arrival.{Arrival}
use Rattle.ur_serve.specs.declared.arrivals.Arrival.TheVariants as arrival
use Rattle.ur_serve.specs.declared.saying.Said.{Said}
use Rattle.ur_serve.specs.declared.saying.Said.TheVariants as said
use Rattle.ur_serve.specs.Items.{Item, request, bad, Starts, Ends}
use Rattle.ur_serve.specs.Sessions.{Answer, Front, Served, Gives, EndsAs}
use Rattle.ur_serve.specs.Programs.{Replies, ReachesHandler, IsSessionOn, IsReply}
use Rattle.ur_serve.specs.Arrivals.{HasGiven, Comes, ComesOn, InputEnds, IsAnswerable}
use Rattle.ur_serve.specs.Saying.{mark_of, closes_of, bytes_of, Says, MayKeep, Writes, over_after, IsOver}
use Rattle.ur_serve.proofs.Fronts.{front_more}

module _ {S T : Type 0} (Answers : S → HttpRequest → Bool → Answer S → Type 0) (Reaches : HttpRequest → Type 0) (kept : S → T) where
  abbrev IsServed : ℕ → S → List Item → List Mark → List ℕ → Bool → S → Type 0
  IsServed = Served (Replies Answers Reaches kept) (ReachesHandler Answers Reaches kept) kept (fixed 502) (fixed 503)

  -- the session so far, on a connection that was in this state when it began, and these bytes are not yet asked for
  pub record Sofar (most : ℕ) (s : S) (t : Traffic) (marks : List Mark) (now : S) (rest : List ℕ) (u : Traffic) : Type 0 where
    pub items : List Item
    pub said : List ℕ
    pub front : Front Starts t.left items rest
    pub served : IsServed most s items marks said false now
    pub given : u.given ≡ onto_last t.given said
    pub coming : u.coming ≡ t.coming

  pub sofar_none : (most : ℕ) (s : S) (t : Traffic) (rest : List ℕ) → rest ≡ t.left → Sofar most s t [] s rest t
  sofar_none most s t rest is = record {
    items = [];
    said = [];
    front = subst (λ r. Front Starts t.left [] r) (sym is) (Front.none t.left);
    served = Served.none;
    given = sym (ap (λ t. t.given) (onto_wire.none t));
    coming = refl;
  }

  -- the session with what is said to an arrival, before it is given
  pub record Spoken (most : ℕ) (s : S) (t : Traffic) (marks : List Mark) (now : S) (rest bytes : List ℕ) (closes : Bool) (u : Traffic) : Type 0 where
    pub items : List Item
    pub said : List ℕ
    pub left : List ℕ
    pub front : Front Starts t.left items left
    pub served : IsServed most s items marks (said ++ bytes) closes now
    pub given : u.given ≡ onto_last t.given said
    pub coming : u.coming ≡ t.coming
    pub goes_on : closes ≡ false → left ≡ rest

  answered : (most : ℕ) (s : S) (t u v : Traffic) (marks : List Mark) (now after : S) (rest rest' left : List ℕ) (item : Item) (a : Answer S) (bytes : List ℕ) (closes : Bool)
      → Sofar most s t marks now rest u → HasGiven u v → length marks < most → Starts rest item left → (a.closes ≡ false → left ≡ rest')
      → Replies Answers Reaches kept now item (suc (length marks) == most) a → a.bytes ≡ bytes → a.closes ≡ closes → Some after ≡ Some a.after
      → Spoken most s t (marks ++ mark.Done ∷ []) after rest' bytes closes v
  answered most s t u v marks now after rest rest' left item a bytes closes sofar (given, coming) short starts on replies b c moved =
      let m : after ≡ a.after = cc in
      let whole = Served.done sofar.items marks sofar.said now item a sofar.served short replies in
      record {
        items = sofar.items ++ item ∷ [];
        said = sofar.said;
        left = left;
        front = front_more t.left sofar.items rest left item sofar.front starts;
        served = subst (λ x. IsServed most s (sofar.items ++ item ∷ []) (marks ++ mark.Done ∷ []) (sofar.said ++ bytes) closes x) (sym m)
            (subst (λ x. IsServed most s (sofar.items ++ item ∷ []) (marks ++ mark.Done ∷ []) (sofar.said ++ bytes) x a.after) c
            (subst (λ x. IsServed most s (sofar.items ++ item ∷ []) (marks ++ mark.Done ∷ []) (sofar.said ++ x) a.closes a.after) b whole));
        given = given ∙ sofar.given;
        coming = coming ∙ sofar.coming;
        goes_on = λ f. on (c ∙ f);
      }

  pub spoken : (most : ℕ) (s : S) (t u v : Traffic) (marks : List Mark) (now after : S) (rest rest' left : List ℕ) (came : Arrival) (what : Said)
      → Sofar most s t marks now rest u → HasGiven u v → Comes rest rest' left came → length marks < most
      → Says Answers Reaches kept now came (suc (length marks) == most) what (Some after)
      → Spoken most s t (marks ++ mark_of what ∷ []) after rest' (bytes_of what) (closes_of what) v
  spoken most s t u v marks now after rest rest' left (arrival.Request q) (said.Answer bytes closes) sofar same comes short (a, replies, b, c, moved) =
      answered most s t u v marks now after rest rest' rest' (request q) a bytes closes sofar same short comes (λ _. refl) replies b c moved
  spoken most s t u v marks now after rest rest' left (arrival.Bad status) (said.Answer bytes closes) sofar same comes short (a, replies, b, c, moved) =
      answered most s t u v marks now after rest rest' rest (bad status) a bytes closes sofar same short (comes, refl)
      (λ f. let d : a.closes ≡ true = ap (λ (x : Answer S). x.closes) replies in absurd (cc)) replies b c moved
  spoken most s t u v marks now after rest rest' left arrival.Memory (said.Answer bytes closes) sofar same comes short says = absurd says
  spoken most s t u v marks now after rest rest' left (arrival.Ended why) (said.Answer bytes closes) sofar same comes short says = absurd says
  spoken most s t u v marks now after rest rest' left (arrival.Request q) said.Keeper sofar (given, coming) comes short (reaches, keeps) = record {
    items = sofar.items ++ request q ∷ [];
    said = sofar.said;
    left = rest';
    front = front_more t.left sofar.items rest rest' (request q) sofar.front comes;
    served = Served.keeper sofar.items marks sofar.said now after (request q) sofar.served short reaches keeps;
    given = given ∙ sofar.given;
    coming = coming ∙ sofar.coming;
    goes_on = λ _. refl;
  }
  spoken most s t u v marks now after rest rest' left (arrival.Bad status) said.Keeper sofar same comes short (reaches, keeps) = absurd reaches
  spoken most s t u v marks now after rest rest' left arrival.Memory said.Keeper sofar same comes short (reaches, keeps) = absurd reaches
  spoken most s t u v marks now after rest rest' left (arrival.Ended why) said.Keeper sofar same comes short (reaches, keeps) = absurd reaches
  spoken most s t u v marks now after rest rest' left came said.Memory sofar (given, coming) comes short keeps = record {
    items = sofar.items;
    said = sofar.said;
    left = rest;
    front = sofar.front;
    served = Served.memory sofar.items marks sofar.said now after sofar.served short keeps;
    given = given ∙ sofar.given;
    coming = coming ∙ sofar.coming;
    goes_on = λ e. absurd (cc);
  }

  -- what was said was given, and the session goes on
  pub goes_on : (most : ℕ) (s : S) (t v w : Traffic) (marks : List Mark) (after : S) (rest bytes : List ℕ) (closes full : Bool)
      → Spoken most s t marks after rest bytes closes v → Writes v bytes None (Some w) → IsOver full closes None
      → (rest' : List ℕ) → rest' ≡ rest → Sofar most s t marks after rest' w
  goes_on most s t v w marks after rest bytes true true spoken wrote over rest' is = absurd (cc)
  goes_on most s t v w marks after rest bytes false true spoken wrote over rest' is = absurd (cc)
  goes_on most s t v w marks after rest bytes true false spoken wrote over rest' is = absurd (cc)
  goes_on most s t v w marks after rest bytes false false spoken wrote over rest' is =
      let told : w ≡ after_write v bytes = cc in
      record {
        items = spoken.items;
        said = spoken.said ++ bytes;
        front = subst (λ r. Front Starts t.left spoken.items r) (spoken.goes_on refl ∙ sym is) spoken.front;
        served = spoken.served;
        given = ap (λ (x : Traffic). x.given) told ∙ ap (λ l. onto_last l bytes) spoken.given ∙ ap (λ (x : Traffic). x.given) (onto_wire.more t spoken.said bytes);
        coming = ap (λ (x : Traffic). x.coming) told ∙ spoken.coming;
      }

  -- what was said was given, or a front of it, and the session is over
  pub is_over : (most : ℕ) (s : S) (t v w : Traffic) (marks : List Mark) (after : S) (rest bytes : List ℕ) (closes : Bool) (why : Why)
      → Spoken most s t marks after rest bytes closes v → Writes v bytes (Some why) (Some w) → IsOver (length marks == most) closes (Some why)
      → IsSessionOn Answers Reaches kept most s t (record { marks = marks; why = why }) after w
  is_over most s t v w marks after rest bytes closes Wire spoken (front, (more, is), wrote) over =
      let told : w ≡ after_write v front = cc in (
        spoken.said ++ front,
        ap (λ (x : Traffic). x.given) told ∙ ap (λ l. onto_last l front) spoken.given ∙ ap (λ (x : Traffic). x.given) (onto_wire.more t spoken.said front),
        ap (λ (x : Traffic). x.coming) told ∙ spoken.coming,
        record {
          items = spoken.items;
          left = spoken.left;
          front = spoken.front;
          answers = spoken.said ++ bytes;
          closed = closes;
          served = spoken.served;
          given_all = (more, ap (λ l. spoken.said ++ l) is ∙ sym (append_assoc spoken.said front more));
        },
      )
  is_over most s t v w marks after rest bytes closes why spoken wrote over =
      let told : w ≡ after_write v bytes = cc in (
        spoken.said ++ bytes,
        ap (λ (x : Traffic). x.given) told ∙ ap (λ l. onto_last l bytes) spoken.given ∙ ap (λ (x : Traffic). x.given) (onto_wire.more t spoken.said bytes),
        ap (λ (x : Traffic). x.coming) told ∙ spoken.coming,
        record {
          items = spoken.items;
          left = spoken.left;
          front = spoken.front;
          answers = spoken.said ++ bytes;
          closed = closes;
          served = spoken.served;
          given_all = (refl, ends_as (length marks == most) closes over);
        },
      ) where
        ends_as : (full closed : Bool) → Some why ≡ over_after full closed → EndsAs Ends full closed spoken.left why
        ends_as true closed e = cc
        ends_as false true e = cc
        ends_as false false e = absurd (cc)

  -- nothing came any more
  pub is_ended : (most : ℕ) (s : S) (t u v : Traffic) (marks : List Mark) (now : S) (rest rest' left : List ℕ) (why : Why)
      → Sofar most s t marks now rest u → HasGiven u v → length marks < most → InputEnds rest left why
      → IsSessionOn Answers Reaches kept most s t (record { marks = marks; why = why }) now v
  is_ended most s t u v marks now rest rest' left why sofar (given, coming) short ends = (
    sofar.said,
    given ∙ sofar.given,
    coming ∙ sofar.coming,
    record {
      items = sofar.items;
      left = rest;
      front = sofar.front;
      answers = sofar.said;
      closed = false;
      served = sofar.served;
      given_all = subst (λ full. Gives Ends full false rest sofar.said sofar.said why) (sym not_full) (gives why ends);
    },
  ) where
    not_full : (length marks == most) ≡ false
    not_full = grind (arith, nat_tests, short)

    gives : (why : Why) → InputEnds rest left why → Gives Ends false false rest sofar.said sofar.said why
    gives End (ends, none) = (refl, ends)
    gives Truncated (ends, none) = (refl, ends)
    gives Wire ends = ([], sym (append-nil sofar.said))
    gives Closed ends = absurd ends
    gives Full ends = absurd ends

  -- ---- what is said to an arrival

  pub says_done : (state after : Option S) (q : HttpRequest) (last closes : Bool) (bytes : List ℕ) → closes ≡ (q.close || last)
      → WhereTold state (λ s. IsReply Answers kept s q last (reply.Done bytes) after)
      → WhereTold state (λ s. Says Answers Reaches kept s (arrival.Request q) last (said.Answer bytes closes) after)
  says_done None after q last closes bytes e replies = tt
  says_done (Some s) after q last closes bytes e (a, replies, b, c, moved) = (a, replies, b, c ∙ sym e, moved)

  pub says_refused : (state : Option S) (status : ℕ) (last : Bool) (what : Said) → (what ≡ said.Memory) ⊎ (what ≡ said.Answer (status_answer status [] false true) true)
      → WhereTold state (λ s. Says Answers Reaches kept s (arrival.Bad status) last what state)
  says_refused None status last what is = tt
  says_refused (Some s) status last what (inl e) = subst (λ w. Says Answers Reaches kept s (arrival.Bad status) last w (Some s)) (sym e) refl
  says_refused (Some s) status last what (inr e) = subst (λ w. Says Answers Reaches kept s (arrival.Bad status) last w (Some s)) (sym e)
      (record { bytes = status_answer status [] false true; closes = true; after = s }, refl, refl, refl, refl)

  says_told : (s : S) (came : Arrival) (last : Bool) (what : Said) → Says Answers Reaches kept s came last what None → ⊥
  says_told s (arrival.Request q) last (said.Answer bytes closes) (a, replies, b, c, moved) = absurd (cc)
  says_told s (arrival.Bad status) last (said.Answer bytes closes) (a, replies, b, c, moved) = absurd (cc)
  says_told s arrival.Memory last (said.Answer bytes closes) says = says
  says_told s (arrival.Ended why) last (said.Answer bytes closes) says = says
  says_told s came last said.Keeper (reaches, none) = none
  says_told s came last said.Memory none = none

  writes_told : (t : Traffic) (bytes : List ℕ) (over : Option Why) → Writes t bytes over None → ⊥
  writes_told t bytes (Some Wire) (front, is, wrote) = absurd (cc)
  writes_told t bytes (Some End) wrote = absurd (cc)
  writes_told t bytes (Some Truncated) wrote = absurd (cc)
  writes_told t bytes (Some Closed) wrote = absurd (cc)
  writes_told t bytes (Some Full) wrote = absurd (cc)
  writes_told t bytes None wrote = absurd (cc)

  -- ---- the same where the wire and the state are told

  abbrev pub InSession : ℕ → (told0 : Option Traffic) (state0 : Option S) (told : Option Traffic) (state : Option S) → List ℕ → List Mark → Type 0
  InSession most told0 state0 told state held marks =
      WhereTold told0 (λ t. WhereTold state0 (λ s. Tells told (λ u. Tells state (λ now. Sofar most s t marks now (held ++ u.left) u))))

  abbrev pub HasSession : ℕ → (told0 : Option Traffic) (state0 : Option S) (told : Option Traffic) (state : Option S) → SessionEnd → Type 0
  HasSession most told0 state0 told state e =
      WhereTold told0 (λ t. WhereTold state0 (λ s. Tells told (λ u. Tells state (λ after. IsSessionOn Answers Reaches kept most s t e after u))))

  pub in_session-none : (most : ℕ) (told : Option Traffic) (state : Option S) (held : List ℕ) → held ≡ [] → InSession most told state told state held []
  in_session-none most None state held is = tt
  in_session-none most (Some t) None held is = tt
  in_session-none most (Some t) (Some s) held is = sofar_none most s t (held ++ t.left) (ap (λ h. h ++ t.left) is)

  pub in_session-more : (most : ℕ) (told0 told1 told2 told3 : Option Traffic) (state0 state1 state2 : Option S) (held held' : List ℕ) (marks : List Mark) (came : Arrival) (what : Said) (full : Bool)
      → InSession most told0 state0 told1 state1 held marks → WhereTold told1 (λ u. ComesOn held held' came u told2) → length marks < most
      → WhereTold state1 (λ s. Says Answers Reaches kept s came (suc (length marks) == most) what state2)
      → WhereTold told2 (λ v. Writes v (bytes_of what) None told3) → IsOver full (closes_of what) None
      → InSession most told0 state0 told3 state2 held' (marks ++ mark_of what ∷ [])
  in_session-more most None told1 told2 told3 state0 state1 state2 held held' marks came what full sofar comes short says writes over = tt
  in_session-more most (Some t) told1 told2 told3 None state1 state2 held held' marks came what full sofar comes short says writes over = tt
  in_session-more most (Some t) None told2 told3 (Some s) state1 state2 held held' marks came what full sofar comes short says writes over = absurd sofar
  in_session-more most (Some t) (Some u) told2 told3 (Some s) None state2 held held' marks came what full sofar comes short says writes over = absurd sofar
  in_session-more most (Some t) (Some u) None told3 (Some s) (Some now) state2 held held' marks came what full sofar comes short says writes over = absurd comes
  in_session-more most (Some t) (Some u) (Some v) told3 (Some s) (Some now) None held held' marks came what full sofar comes short says writes over =
      absurd (says_told now came (suc (length marks) == most) what says)
  in_session-more most (Some t) (Some u) (Some v) None (Some s) (Some now) (Some after) held held' marks came what full sofar comes short says writes over =
      absurd (writes_told v (bytes_of what) None writes)
  in_session-more most (Some t) (Some u) (Some v) (Some w) (Some s) (Some now) (Some after) held held' marks came what full sofar (same, comes) short says writes over =
      let spoke = spoken most s t u v marks now after (held ++ u.left) (held' ++ v.left) v.left came what sofar same comes short says in
      let told : w ≡ after_write v (bytes_of what) = cc in
      goes_on most s t v w (marks ++ mark_of what ∷ []) after (held' ++ v.left) (bytes_of what) (closes_of what) full spoke writes over (held' ++ w.left)
      (ap (λ (x : Traffic). held' ++ x.left) told)

  pub has_session-over : (most : ℕ) (told0 told1 told2 told3 : Option Traffic) (state0 state1 state2 : Option S) (held held' : List ℕ) (marks : List Mark) (came : Arrival) (what : Said) (why : Why)
      → InSession most told0 state0 told1 state1 held marks → WhereTold told1 (λ u. ComesOn held held' came u told2) → length marks < most
      → WhereTold state1 (λ s. Says Answers Reaches kept s came (suc (length marks) == most) what state2)
      → WhereTold told2 (λ v. Writes v (bytes_of what) (Some why) told3) → IsOver (length (marks ++ mark_of what ∷ []) == most) (closes_of what) (Some why)
      → HasSession most told0 state0 told3 state2 (record { marks = marks ++ mark_of what ∷ []; why = why })
  has_session-over most None told1 told2 told3 state0 state1 state2 held held' marks came what why sofar comes short says writes over = tt
  has_session-over most (Some t) told1 told2 told3 None state1 state2 held held' marks came what why sofar comes short says writes over = tt
  has_session-over most (Some t) None told2 told3 (Some s) state1 state2 held held' marks came what why sofar comes short says writes over = absurd sofar
  has_session-over most (Some t) (Some u) told2 told3 (Some s) None state2 held held' marks came what why sofar comes short says writes over = absurd sofar
  has_session-over most (Some t) (Some u) None told3 (Some s) (Some now) state2 held held' marks came what why sofar comes short says writes over = absurd comes
  has_session-over most (Some t) (Some u) (Some v) told3 (Some s) (Some now) None held held' marks came what why sofar comes short says writes over =
      absurd (says_told now came (suc (length marks) == most) what says)
  has_session-over most (Some t) (Some u) (Some v) None (Some s) (Some now) (Some after) held held' marks came what why sofar comes short says writes over =
      absurd (writes_told v (bytes_of what) (Some why) writes)
  has_session-over most (Some t) (Some u) (Some v) (Some w) (Some s) (Some now) (Some after) held held' marks came what why sofar (same, comes) short says writes over =
      let spoke = spoken most s t u v marks now after (held ++ u.left) (held' ++ v.left) v.left came what sofar same comes short says in
      is_over most s t v w (marks ++ mark_of what ∷ []) after (held' ++ v.left) (bytes_of what) (closes_of what) why spoke writes over

  pub has_session-ended : (most : ℕ) (told0 told1 told2 : Option Traffic) (state0 state1 : Option S) (held held' : List ℕ) (marks : List Mark) (why : Why)
      → InSession most told0 state0 told1 state1 held marks → WhereTold told1 (λ u. ComesOn held held' (arrival.Ended why) u told2) → length marks < most
      → HasSession most told0 state0 told2 state1 (record { marks = marks; why = why })
  has_session-ended most None told1 told2 state0 state1 held held' marks why sofar comes short = tt
  has_session-ended most (Some t) told1 told2 None state1 held held' marks why sofar comes short = tt
  has_session-ended most (Some t) None told2 (Some s) state1 held held' marks why sofar comes short = absurd sofar
  has_session-ended most (Some t) (Some u) told2 (Some s) None held held' marks why sofar comes short = absurd sofar
  has_session-ended most (Some t) (Some u) None (Some s) (Some now) held held' marks why sofar comes short = absurd comes
  has_session-ended most (Some t) (Some u) (Some v) (Some s) (Some now) held held' marks why sofar (same, comes) short =
      is_ended most s t u v marks now (held ++ u.left) (held' ++ v.left) v.left why sofar same short comes

-- ---- marks and counts

-- no connection is taken
pub wired_none : (told : Option Traffic) → WhereTold told (λ t. Tells told (λ u. u.coming ≡ t.coming))
wired_none None = tt
wired_none (Some t) = refl

pub over_not_ended : (full closes : Bool) (why : Why) → IsOver full closes (Some why) → (why ≡ End) ⊎ (why ≡ Truncated) → ⊥
over_not_ended full closes Wire over (inl e) = absurd (cc)
over_not_ended full closes Wire over (inr e) = absurd (cc)
over_not_ended full closes Closed over (inl e) = absurd (cc)
over_not_ended full closes Closed over (inr e) = absurd (cc)
over_not_ended full closes Full over (inl e) = absurd (cc)
over_not_ended full closes Full over (inr e) = absurd (cc)
over_not_ended true closes End over e = absurd (cc)
over_not_ended false true End over e = absurd (cc)
over_not_ended false false End over e = absurd (cc)
over_not_ended true closes Truncated over e = absurd (cc)
over_not_ended false true Truncated over e = absurd (cc)
over_not_ended false false Truncated over e = absurd (cc)

pub goes_on_done : (full : Bool) (what : Said) → IsOver full (closes_of what) None → mark_of what ≡ mark.Done
goes_on_done full (said.Answer bytes closes) over = refl
goes_on_done true said.Keeper over = absurd (cc)
goes_on_done false said.Keeper over = absurd (cc)
goes_on_done true said.Memory over = absurd (cc)
goes_on_done false said.Memory over = absurd (cc)

pub not_full : (full closes : Bool) → IsOver full closes None → full ≡ false
not_full true closes over = absurd (cc)
not_full false closes over = refl

never_keeper : (marks : List Mark) → All (λ m. m ≡ mark.Keeper → ⊥) marks → Any (λ m. m ≡ mark.Keeper) marks → ⊥
never_keeper marks all (k, x, within, at, is) = all k x within (at ∙ is)

done_never : (m : Mark) → m ≡ mark.Done → m ≡ mark.Keeper → ⊥
done_never m e f = absurd (cc)

memory_never : mark.Memory ≡ mark.Keeper → ⊥
memory_never e = absurd (cc)

pub keeper_last : (marks : List Mark) (what : Said) → All (λ m. m ≡ mark.Done) marks → Any (λ m. m ≡ mark.Keeper) (marks ++ mark_of what ∷ []) → what ≡ said.Keeper
keeper_last marks (said.Answer bytes closes) done any =
    absurd (never_keeper (marks ++ mark.Done ∷ []) (All-push (λ m. m ≡ mark.Keeper → ⊥) marks mark.Done (All-weaker (λ m. m ≡ mark.Done) (λ m. m ≡ mark.Keeper → ⊥) done_never marks done) (done_never mark.Done refl)) any)
keeper_last marks said.Keeper done any = refl
keeper_last marks said.Memory done any =
    absurd (never_keeper (marks ++ mark.Memory ∷ []) (All-push (λ m. m ≡ mark.Keeper → ⊥) marks mark.Memory (All-weaker (λ m. m ≡ mark.Done) (λ m. m ≡ mark.Keeper → ⊥) done_never marks done) memory_never) any)

-- what came and is no end left the count
pub still_counted : (a : Arrival) (new old : ℕ) → ((why : Why) → a ≡ arrival.Ended why → ⊥) → new ≡ count_at_arrival a old → new ≡ old
still_counted (arrival.Request q) new old never e = e
still_counted (arrival.Bad status) new old never e = e
still_counted arrival.Memory new old never e = e
still_counted (arrival.Ended why) new old never e = absurd (never why refl)

pub rose_later : (a b c : ℕ) → a ≤ b → Rose b c → Rose a c
rose_later a b c later rose = grind (arith, nat_tests, later, rose)

-- the last test of the code is the definition's
pub last_is : (items marks : List Mark) (most : ℕ) → items ≡ marks → (length items + 1 == most) ≡ (suc (length marks) == most)
last_is items marks most is = ap (λ k. k == most) (omega (arith, ap length is))

written : (v w : Traffic) (bytes : List ℕ) → Some w ≡ Some (after_write v bytes) → w.coming ≡ v.coming
written v w bytes e = let same : w ≡ after_write v bytes = cc in ap (λ (t : Traffic). t.coming) same

writes_coming : (v w : Traffic) (bytes : List ℕ) (over : Option Why) → Writes v bytes over (Some w) → w.coming ≡ v.coming
writes_coming v w bytes None writes = written v w bytes writes
writes_coming v w bytes (Some Wire) (front, is, wrote) = written v w front wrote
writes_coming v w bytes (Some End) writes = written v w bytes writes
writes_coming v w bytes (Some Truncated) writes = written v w bytes writes
writes_coming v w bytes (Some Closed) writes = written v w bytes writes
writes_coming v w bytes (Some Full) writes = written v w bytes writes

pub wired_more : (told0 told1 told2 told3 : Option Traffic) (held held' bytes : List ℕ) (came : Arrival) (over : Option Why)
    → WhereTold told0 (λ t. Tells told1 (λ u. u.coming ≡ t.coming)) → WhereTold told1 (λ u. ComesOn held held' came u told2) → WhereTold told2 (λ v. Writes v bytes over told3)
    → WhereTold told0 (λ t. Tells told3 (λ u. u.coming ≡ t.coming))
wired_more None told1 told2 told3 held held' bytes came over wired comes writes = tt
wired_more (Some t) None told2 told3 held held' bytes came over wired comes writes = absurd wired
wired_more (Some t) (Some u) None told3 held held' bytes came over wired comes writes = absurd comes
wired_more (Some t) (Some u) (Some v) (Some w) held held' bytes came over wired comes writes = writes_coming v w bytes over writes ∙ comes.0.1 ∙ wired
wired_more (Some t) (Some u) (Some v) None held held' bytes came None wired comes writes = absurd (cc)
wired_more (Some t) (Some u) (Some v) None held held' bytes came (Some Wire) wired comes (front, is, wrote) = absurd (cc)
wired_more (Some t) (Some u) (Some v) None held held' bytes came (Some End) wired comes writes = absurd (cc)
wired_more (Some t) (Some u) (Some v) None held held' bytes came (Some Truncated) wired comes writes = absurd (cc)
wired_more (Some t) (Some u) (Some v) None held held' bytes came (Some Closed) wired comes writes = absurd (cc)
wired_more (Some t) (Some u) (Some v) None held held' bytes came (Some Full) wired comes writes = absurd (cc)

-- the same at the input's end
pub wired_ended : (told0 told1 told2 : Option Traffic) (held held' : List ℕ) (came : Arrival) → WhereTold told0 (λ t. Tells told1 (λ u. u.coming ≡ t.coming))
    → WhereTold told1 (λ u. ComesOn held held' came u told2) → WhereTold told0 (λ t. Tells told2 (λ u. u.coming ≡ t.coming))
wired_ended None told1 told2 held held' came wired comes = tt
wired_ended (Some t) None told2 held held' came wired comes = absurd wired
wired_ended (Some t) (Some u) None held held' came wired comes = absurd comes
wired_ended (Some t) (Some u) (Some v) held held' came wired comes = comes.0.1 ∙ wired

-- where the session goes on a request came, and the splitter has refused nothing
pub answerable_on : (came : Arrival) (refused : Option ℕ) (full closes : Bool) → IsAnswerable came refused → MayKeep came closes → IsOver full closes None → refused ≡ None
answerable_on (arrival.Request q) refused full closes answerable keeps over = answerable
answerable_on (arrival.Bad status) refused true closes answerable keeps over = absurd (cc)
answerable_on (arrival.Bad status) refused false true answerable keeps over = absurd (cc)
answerable_on (arrival.Bad status) refused false false answerable keeps over = absurd (cc)
answerable_on arrival.Memory refused true closes answerable keeps over = absurd (cc)
answerable_on arrival.Memory refused false true answerable keeps over = absurd (cc)
answerable_on arrival.Memory refused false false answerable keeps over = absurd (cc)
answerable_on (arrival.Ended why) refused true closes answerable keeps over = absurd (cc)
answerable_on (arrival.Ended why) refused false true answerable keeps over = absurd (cc)
answerable_on (arrival.Ended why) refused false false answerable keeps over = absurd (cc)
