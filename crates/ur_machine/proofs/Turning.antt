-- What a turn does with what is left of a run.
use Rattle.std.proofs.Common.{◌≡◌, ℕ, ◌-◌, ◌<◌, ◌≤◌, Bool, true, false, if◌then◌else◌, List, [], ◌∷◌, ◌++◌, Option, Some, None, Result, Ok, Err, refl, sym, ap, subst, ◌∙◌, arith}
use Rattle.std.proofs.lemmas.List.{append-nil}
use Rattle.std.specs.Prelude.{codes, IsErrAnd}
use Rattle.std.specs.Borrow.{Bor}
use Rattle.ur_base.specs.Told.{WhereTold}
use Rattle.ur_values.specs.declared.value.Value.{Value}
use Rattle.ur_values.specs.Event.{Event}
use Rattle.ur_values.specs.Store.{Store}
use Rattle.ur_keeper.specs.Keeper.{IsUndone, IsWithin}
use Rattle.ur_keeper.specs.Tables.{Tables, KeptSchema, Keeps, store_of}
use Rattle.ur_tags.specs.Show.{show, show_error, show_text}
use Rattle.ur_terms.specs.declared.term.Function.{Function}
use Rattle.ur_terms.specs.declared.term.Op.{Op}
use Rattle.ur_terms.specs.declared.term.Op.TheVariants as op
use Rattle.ur_terms.specs.State.{State, Outcome, Done, Error, Spent, Stuck, LeavesAtMost}
use Rattle.ur_terms.specs.Ops.{does}
use Rattle.ur_terms.specs.Run.{Does}
use Rattle.ur_machine_frames.specs.declared.frame.Frame.{Frame}
use Rattle.ur_machine_frames.specs.declared.control.Pause.TheVariants as pause
use Rattle.ur_machine_frames.specs.Plays.{Plays, IsLocal, held}
use Rattle.ur_machine_frames.specs.Rest.{outer, resume}
use Rattle.ur_machine_frames.proofs.Playing.{does_plays}
use Rattle.ur_code.specs.declared.code.Code.{Code}
use Rattle.ur_code.specs.Meaning.{code_sql, are_storable, if_storable, limited, does_code}
use Rattle.ur_machine.specs.declared.machine.Machine.{Machine}
use Rattle.ur_machine.specs.Left.{left, EndsAs, given_to}
use Rattle.ur_machine.specs.UnderWay.{IsUnderWay, WaitsFor}
use Rattle.ur_machine.specs.declared.stop.TurnStop.{TurnStop}
use Rattle.ur_machine.specs.declared.stop.TurnStop.TheVariants as stop
use Rattle.ur_machine.specs.declared.turn.Turn.{Turn}
use Rattle.ur_machine.specs.declared.turn.Turn.TheVariants as turn
use Rattle.ur_machine.specs.TurnsCookies.{sent_pairs}
use Rattle.ur_machine.specs.StoreCalls.{DoesStoreCall, StoreCall}
use Rattle.ur_machine.specs.Stops.{Leaves, Stays}
use Rattle.ur_machine.specs.Ready.{AreReady, RaisedBy}
use Rattle.ur_machine.specs.Turning.{StandsAt, by_itself, without_units, in_store_call, FailsWith, TurnOn, goes_on, ends, fails, keeper, memory, RunOn, RunStays, Ran, Turned}
use Rattle.ur_machine.proofs.Told.{where_told, told_all, raised_more}

-- ---- the operations of code

limited_plain : (code : Code) (o : Op) → IsLocal o → (xs : List Value) (s : State) → does_code code o xs s ≡ does (code_sql code) o xs s
limited_plain code (op.Ask how site) l xs s = absurd l
limited_plain code (op.Write update) l xs s = absurd l
limited_plain code (op.Next q) l xs s = absurd l
limited_plain code _ l xs s = refl

if_leaves : (u : ℕ) (b : Bool) (x : Value) (s : State) → s.units ≤ u → LeavesAtMost u (if b then Done x s else Spent s.events)
if_leaves u true x s h = h
if_leaves u false x s h = tt

storable_leaves : (u : ℕ) (w : Outcome Value) → LeavesAtMost u w → LeavesAtMost u (if_storable w)
storable_leaves u (Done x s) h = if_leaves u (are_storable s.store) x s h
storable_leaves u (Error body events) h = tt
storable_leaves u (Spent events) h = tt
storable_leaves u Stuck h = tt

limited_leaves : (u : ℕ) (o : Op) (w : Outcome Value) → LeavesAtMost u w → LeavesAtMost u (limited o w)
limited_leaves u (op.Write update) w h = storable_leaves u w h
limited_leaves u _ w h = h

-- those of code play their part
pub code_plays : (code : Code) → Plays (does_code code)
code_plays code = record {
  plain = λ o l xs s. limited_plain code o l xs s ∙ (does_plays (code_sql code)).plain o l xs s;
  units = λ o xs s. limited_leaves s.units o (does (code_sql code) o xs s) ((does_plays (code_sql code)).units o xs s);
}

-- ---- what stops a run stops what waits for it

resume_error : (d : Does) (fs : List Function) (frames : List Frame) (env : List Value) (body : Value) (events : List Event) → resume d fs frames env (Error body events) ≡ Error body events
resume_error d fs [] env body events = refl
resume_error d fs (f ∷ frames) env body events = resume_error d fs frames (outer f env) body events

resume_spent : (d : Does) (fs : List Function) (frames : List Frame) (env : List Value) (events : List Event) → resume d fs frames env (Spent events) ≡ Spent events
resume_spent d fs [] env events = refl
resume_spent d fs (f ∷ frames) env events = resume_spent d fs frames (outer f env) events

-- ---- ends of a run up to the next operation on tables

module _ (Did : List Event → Type 0) (code : Code) (m m' : Machine) where
  -- a page
  pub page_ends : Did [] → (page : Value) → EndsAs code m m' (pause.Page page) → (before : Tables) (after : Option Tables) → after ≡ Some before → (t : Turn)
      → t ≡ turn.Page (show code.handlers page) (sent_pairs code.cookies m'.frames.sent) → TurnOn Did code m m' before after t
  page_ends none page h before after e t is = subst (TurnOn Did code m m' before after) (sym is) (ends page (record {
    stands = h;
    ends = λ earlier. h (does_code code) (code_plays code) (store_of before) earlier;
  }) none e)

  pub failed_ends : Did [] → (body : Value) → EndsAs code m m' (pause.Failed body) → (store : Store) → FailsWith Did code m (Some body) store
  failed_ends none body h store = record { events = []; did = none; there = by_itself m' body h; fails = λ earlier. h (does_code code) (code_plays code) store earlier ∙ ap (Error body) (sym (append-nil earlier)) }

  pub spent_ends : Did [] → EndsAs code m m' pause.Spent → (store : Store) → FailsWith Did code m None store
  spent_ends none h store = record { events = []; did = none; there = without_units m' h; fails = λ earlier. h (does_code code) (code_plays code) store earlier ∙ ap Spent (sym (append-nil earlier)) }

-- an operation on tables
module _ (Did : List Event → Type 0) (code : Code) (m m' : Machine) (r : Bor Op) (args : List Value) (on : IsLocal r.now → ⊥) (h : EndsAs code m m' (pause.Store r args)) (before : Store) where
  abbrev its_store_call : StandsAt code m
  its_store_call = record { here = m'; store_call = r; args = args; on_tables = on; stands = h }

  store_call_failed : (body : Value) (one : List Event) → Did one
      → ((carried : List Value) (sent : List (ℕ × Value)) (earlier : List Event) → does_code code r.now args (held carried sent before earlier m'.frames.units) ≡ Error body (earlier ++ one))
      → FailsWith Did code m (Some body) before
  store_call_failed body one is does = record {
    events = one;
    did = is;
    there = in_store_call its_store_call (Some body) one does;
    fails = λ earlier. h (does_code code) (code_plays code) before earlier
        ∙ ap (resume (does_code code) code.functions m'.frames.frames m'.frames.values) (does m'.frames.carried m'.frames.sent earlier)
        ∙ resume_error (does_code code) code.functions m'.frames.frames m'.frames.values body (earlier ++ one);
  }

  store_call_spent : (one : List Event) → Did one
      → ((carried : List Value) (sent : List (ℕ × Value)) (earlier : List Event) → does_code code r.now args (held carried sent before earlier m'.frames.units) ≡ Spent (earlier ++ one))
      → FailsWith Did code m None before
  store_call_spent one is does = record {
    events = one;
    did = is;
    there = in_store_call its_store_call None one does;
    fails = λ earlier. h (does_code code) (code_plays code) before earlier
        ∙ ap (resume (does_code code) code.functions m'.frames.frames m'.frames.values) (does m'.frames.carried m'.frames.sent earlier)
        ∙ resume_spent (does_code code) code.functions m'.frames.frames m'.frames.values (earlier ++ one);
  }

  -- the operation stopped the run
  pub store_call_stops : (after : Option Tables) (units' : ℕ) (e : TurnStop) (t : Tables) → store_of t ≡ before → DoesStoreCall Did code r.now args m'.frames.units before after units' (Err e)
      → (n : Machine) → RunOn Did code m n t after (Err e)
  store_call_stops after units' (stop.Failed body) t is (one, of, does) n = subst (FailsWith Did code m (Some body)) (sym is) (store_call_failed body one of does)
  store_call_stops after units' stop.Spent t is (one, of, does) n = subst (FailsWith Did code m None) (sym is) (store_call_spent one of does)
  store_call_stops after units' stop.Keeper t is does n = tt
  store_call_stops after units' stop.Undone t is does n = tt
  store_call_stops after units' stop.Memory t is does n = tt

  -- it gave a value, with which the run goes on
  pub store_call_goes_on : (after : Option Tables) (units' : ℕ) (x : Value) (t : Tables) → store_of t ≡ before → DoesStoreCall Did code r.now args m'.frames.units before after units' (Ok x)
      → (n : Machine) → n ≡ given_to m' x units' → TurnOn Did code m n t after turn.More
  store_call_goes_on after units' x t is (t', one, of, e, does) n same =
      subst (λ z. TurnOn Did code m z t after turn.More) (sym same) (goes_on t' (record {
        events = one;
        did = of;
        through = its_store_call;
        answer = x;
        units = units';
        answered = refl;
        kept = λ earlier. ap (λ s. left (does_code code) code m s earlier) is ∙ h (does_code code) (code_plays code) before earlier
            ∙ ap (resume (does_code code) code.functions m'.frames.frames m'.frames.values) (does m'.frames.carried m'.frames.sent earlier);
      }) e)

-- ---- what the run did

module _ (Did : List Event → Type 0) (code : Code) (m m' : Machine) (saved current : Option Tables) (kept : KeptSchema) (under_way : Bool) (same : kept ≡ Keeps code.schema) (goes : under_way ≡ true) (none : Did []) where
  abbrev Still : Result Turn TurnStop → Type 0
  Still = Ran Did code m m' saved saved current current kept under_way

  still : IsWithin saved saved (Keeps code.schema) kept under_way
  still = record { same_saved = refl; same_kept = same; goes_on = goes }

  pub ran_page : (page : Value) (t : Turn) → EndsAs code m m' (pause.Page page) → t ≡ turn.Page (show code.handlers page) (sent_pairs code.cookies m'.frames.sent) → Still (Ok t)
  ran_page page t h is = subst (λ z. Still (Ok z)) (sym is) (record {
    kind = tt;
    on = told_all current _ (λ before e. page_ends Did code m m' none page h before current e (turn.Page (show code.handlers page) (sent_pairs code.cookies m'.frames.sent)) refl);
    leaves = still;
    stays = refl;
    machine = tt;
    ready = tt;
    charged = tt;
    raised = tt;
    untold = tt;
  })

  pub ran_failed : (body : Value) → EndsAs code m m' (pause.Failed body) → Still (Err (stop.Failed body))
  ran_failed body h = record { kind = tt; on = told_all current _ (λ before e. failed_ends Did code m m' none body h (store_of before)); leaves = still; stays = refl; machine = tt; ready = tt; charged = tt; raised = tt; untold = tt }

  pub ran_spent : EndsAs code m m' pause.Spent → Still (Err stop.Spent)
  ran_spent h = record { kind = tt; on = told_all current _ (λ before e. spent_ends Did code m m' none h (store_of before)); leaves = still; stays = refl; machine = tt; ready = tt; charged = tt; raised = tt; untold = tt }

  pub ran_memory : Still (Err stop.Memory)
  ran_memory = record { kind = tt; on = told_all current _ (λ before e. tt); leaves = still; stays = tt; machine = tt; ready = tt; charged = tt; raised = tt; untold = tt }

module _ (Did : List Event → Type 0) (code : Code) (m m' : Machine) (r : Bor Op) (args : List Value) (on : IsLocal r.now → ⊥) (h : EndsAs code m m' (pause.Store r args)) (units' : ℕ) (saved saved' current current' : Option Tables) (kept' : KeptSchema) (under_way' : Bool) where
  -- the operation on tables stopped
  pub ran_stops : (e : TurnStop) → StoreCall Did code r.now args m'.frames.units units' saved saved' current current' kept' under_way' (Err e) → Ran Did code m m' saved saved' current current' kept' under_way' (Err e)
  ran_stops e d = record {
    kind = tt;
    on = where_told current _ _ d.does (λ before f does. store_call_stops Did code m m' r args on h (store_of before) current' units' e before refl does m');
    leaves = keeps e d.leaves;
    stays = stays_so e d.stays;
    machine = tt;
    ready = tt;
    charged = tt;
    raised = tt;
    untold = tt;
  }
    where
      keeps : (e : TurnStop) → Leaves {A = Value} (Err e) saved saved' current' (Keeps code.schema) kept' under_way' → Leaves {A = Turn} (Err e) saved saved' current' (Keeps code.schema) kept' under_way'
      keeps (stop.Failed body) l = l
      keeps stop.Spent l = l
      keeps stop.Keeper l = l
      keeps stop.Undone l = l
      keeps stop.Memory l = l

      stays_so : (e : TurnStop) → Stays {A = Value} (Err e) current current' → RunStays (Err e) current current'
      stays_so (stop.Failed body) l = l
      stays_so stop.Spent l = l
      stays_so stop.Keeper l = tt
      stays_so stop.Undone l = tt
      stays_so stop.Memory l = tt

  -- it gave a value
  pub ran_on : (x : Value) → StoreCall Did code r.now args m'.frames.units units' saved saved' current current' kept' under_way' (Ok x) → WaitsFor code r.now m' → m'.frames.units ≤ m.frames.units
      → (n : Machine) → n ≡ given_to m' x units' → Ran Did code m n saved saved' current current' kept' under_way' (Ok turn.More)
  ran_on x d waits less n is = record {
    kind = tt;
    on = where_told current _ _ d.does (λ before f does. store_call_goes_on Did code m m' r args on h (store_of before) current' units' x before refl does n is);
    leaves = d.leaves;
    stays = tt;
    machine = subst (IsUnderWay code) (sym is) (waits x units' d.answer d.fewer);
    ready = subst (λ z. WhereTold current' (AreReady code.schema z.frames.units)) (sym is) d.ready;
    charged = subst (λ z. z.frames.units < m.frames.units) (sym is) (let fewer : units' < m'.frames.units = d.fewer in omega (arith, fewer, less));
    raised = subst (λ z. RaisedBy (m.frames.units - z.frames.units) current current') (sym is) (raised_more (m'.frames.units - units') (m.frames.units - units') current current' (omega (arith, less)) d.raised);
    untold = d.untold;
  }

-- ---- the whole turn

module _ (Did : List Event → Type 0) (code : Code) (m m' : Machine) (saved saved' current current' : Option Tables) (kept' : KeptSchema) (under_way' : Bool) where
  abbrev Its : Turn → Type 0
  Its = Turned Did code m m' saved saved' current current' kept' under_way'

  abbrev Run : Result Turn TurnStop → Type 0
  Run = Ran Did code m m' saved saved' current current' kept' under_way'

  pub turned_ok : (t : Turn) → Run (Ok t) → Its t
  turned_ok turn.More r = record { on = r.on; undone = r.leaves.goes_on; same_saved = r.leaves.same_saved; same_kept = r.leaves.same_kept; stays = tt; machine = r.machine; ready = r.ready; charged = r.charged; raised = r.raised; untold = r.untold }
  turned_ok (turn.Page bytes cookies) r = record { on = r.on; undone = r.leaves.goes_on; same_saved = r.leaves.same_saved; same_kept = r.leaves.same_kept; stays = r.stays; machine = tt; ready = tt; charged = tt; raised = tt; untold = tt }
  turned_ok (turn.Failed bytes) r = absurd r.kind
  turned_ok turn.Keeper r = absurd r.kind
  turned_ok turn.Memory r = absurd r.kind

  pub turned_failed : (body : Value) (bytes : List ℕ) → bytes ≡ show_error code.handlers body → Run (Err (stop.Failed body)) → Its (turn.Failed bytes)
  turned_failed body bytes is r = subst (λ b. Its (turn.Failed b)) (sym is) (record {
    on = where_told current _ _ r.on (λ before e f. fails (Some body) f (r.stays ∙ e));
    undone = r.leaves.goes_on;
    same_saved = r.leaves.same_saved;
    same_kept = r.leaves.same_kept;
    stays = r.stays;
    machine = tt;
    ready = tt;
    charged = tt;
    raised = tt;
    untold = tt;
  })

  pub turned_spent : (bytes : List ℕ) → bytes ≡ show_text (codes "Error") (codes "budget spent") → Run (Err stop.Spent) → Its (turn.Failed bytes)
  turned_spent bytes is r = subst (λ b. Its (turn.Failed b)) (sym is) (record {
    on = where_told current _ _ r.on (λ before e f. fails None f (r.stays ∙ e));
    undone = r.leaves.goes_on;
    same_saved = r.leaves.same_saved;
    same_kept = r.leaves.same_kept;
    stays = r.stays;
    machine = tt;
    ready = tt;
    charged = tt;
    raised = tt;
    untold = tt;
  })

  pub turned_keeper : Run (Err stop.Keeper) → Its turn.Keeper
  turned_keeper r = record { on = told_all current _ (λ before e. keeper); undone = (r.leaves.ended, r.leaves.at_rest ∙ sym r.leaves.same_saved); same_saved = r.leaves.same_saved; same_kept = r.leaves.same_kept; stays = tt; machine = tt; ready = tt; charged = tt; raised = tt; untold = tt }

  pub turned_undone : Run (Err stop.Undone) → Its turn.Memory
  turned_undone r = record { on = told_all current _ (λ before e. memory); undone = (r.leaves.ended, r.leaves.at_rest ∙ sym r.leaves.same_saved); same_saved = r.leaves.same_saved; same_kept = r.leaves.same_kept; stays = tt; machine = tt; ready = tt; charged = tt; raised = tt; untold = tt }

-- neither a fault of the keeper nor its want of memory
abbrev pub GoesOnAfter : TurnStop → Type 0
GoesOnAfter (stop.Failed body) = Unit {0}
GoesOnAfter stop.Spent = Unit {0}
GoesOnAfter stop.Keeper = ⊥
GoesOnAfter stop.Undone = ⊥
GoesOnAfter stop.Memory = Unit {0}

-- the transaction is given up
pub turned_memory : (Did Did' : List Event → Type 0) (code : Code) (m m' : Machine) (saved saved₁ saved' current current₁ current' : Option Tables) (kept₁ kept' : KeptSchema) (under_way₁ under_way' : Bool) (e : TurnStop) (t : Turn)
    → GoesOnAfter e → Ran Did code m m' saved saved₁ current current₁ kept₁ under_way₁ (Err e) → t ≡ turn.Memory → IsUndone saved₁ saved' current' kept₁ kept' under_way'
    → Turned Did' code m m' saved saved' current current' kept' under_way' t
turned_memory Did Did' code m m' saved saved₁ saved' current current₁ current' kept₁ kept' under_way₁ under_way' e t a r is u =
    let w = goes_on_still e a r.leaves in
    subst (λ z. Turned Did' code m m' saved saved' current current' kept' under_way' z) (sym is) (record {
      on = told_all current _ (λ before f. memory);
      undone = (u.ended, u.at_rest ∙ sym u.same_saved);
      same_saved = u.same_saved ∙ w.same_saved;
      same_kept = u.same_kept ∙ w.same_kept;
      stays = tt;
      machine = tt;
      ready = tt;
      charged = tt;
      raised = tt;
      untold = tt;
    })
  where
    goes_on_still : (e : TurnStop) → GoesOnAfter e → Leaves {A = Turn} (Err e) saved saved₁ current₁ (Keeps code.schema) kept₁ under_way₁ → IsWithin saved saved₁ (Keeps code.schema) kept₁ under_way₁
    goes_on_still (stop.Failed body) a l = l
    goes_on_still stop.Spent a l = l
    goes_on_still stop.Keeper a l = absurd a
    goes_on_still stop.Undone a l = absurd a
    goes_on_still stop.Memory a l = l

-- the stop by another name
pub ran_at : {Did : List Event → Type 0} {code : Code} {m m' : Machine} {saved saved' current current' : Option Tables} {kept' : KeptSchema} {under_way' : Bool} (e f : TurnStop) → e ≡ f
    → Ran Did code m m' saved saved' current current' kept' under_way' (Err e) → Ran Did code m m' saved saved' current current' kept' under_way' (Err f)
ran_at {Did = Did} {code = code} {m = m} {m' = m'} {saved = saved} {saved' = saved'} {current = current} {current' = current'} {kept' = kept'} {under_way' = under_way'} e f is h =
    subst (λ z. Ran Did code m m' saved saved' current current' kept' under_way' (Err z)) is h

-- behind a `?`
pub ran_exit : {Did : List Event → Type 0} {code : Code} {m m' : Machine} {saved saved' current current' : Option Tables} {kept' : KeptSchema} {under_way' : Bool} (r : Result Turn TurnStop) (e : TurnStop)
    → IsErrAnd r (λ y. y ≡ e) → Ran Did code m m' saved saved' current current' kept' under_way' (Err e) → Ran Did code m m' saved saved' current current' kept' under_way' r
ran_exit (Ok x) e i h = absurd i
ran_exit {Did = Did} {code = code} {m = m} {m' = m'} {saved = saved} {saved' = saved'} {current = current} {current' = current'} {kept' = kept'} {under_way' = under_way'} (Err y) e i h =
    subst (λ z. Ran Did code m m' saved saved' current current' kept' under_way' (Err z)) (sym i) h
