-- What the end of a run says of its status: one lemma a clause.
use Rattle.std.proofs.Common.{◌≡◌, ◌≢◌, ◌⊎◌, inl, inr, ℕ, ◌+◌, min, false, List, [], ◌∷◌, length, Option, Some, None, Contains, Any, refl, sym, ap}
use Rattle.std.proofs.Common.{subst, ◌∙◌, arith}
use Rattle.ur_base.specs.Counts.{Rose, RoseBy}
use Rattle.ur_base.specs.Told.{WhereTold}
use Rattle.ur_base.specs.declared.refusal.Refusal.{Refusal}
use Rattle.ur_io.specs.Calls.{count_after}
use Rattle.ur_io.specs.Files.{Files}
use Rattle.ur_io.specs.Traffic.{Traffic}
use Rattle.ur_io.specs.declared.session.SessionEnd.{SessionEnd}
use Rattle.ur_words.specs.declared.reading.Reading.{Reading}
use Rattle.ur_words.specs.declared.reading.Reading.TheVariants.{Check, Sites, Replay, Serve, Load}
use Rattle.ur_values.specs.declared.schema.Schema.{Schema}
use Rattle.std.proofs.lemmas.Bool.{false≢true}
use Rattle.ur_keeper.specs.Tables.{Tables, KeptSchema, Untold, Empty, Keeps, Spells}
use Rattle.ur_keeper.specs.Keeper.{AttachesTo, CanTake, HasOther}
use Rattle.ur_keeper.specs.declared.keeper.Attached.TheVariants.{Differs}
use Rattle.ur_tree.specs.declared.typed.Typed.{Typed}
use Rattle.ur_compile.specs.Accepts.{Accepts, HasOneApplication}
use Rattle.ur_compile.specs.Explains.{Refuses}
use Rattle.ur_headline.specs.Counting.{wire_faults, next_failed, keeper_faults, IsCutOff, IsWireStatus, HasAllMarks, LeftOut, AnyWants, AllDone}
use Rattle.ur_headline.specs.Counting.{WantsMemory, IsWhole}
use Rattle.ur_headline.specs.Readings.{Serving, serving, IfServing, ForServing}
use Rattle.ur_headline.proofs.Counting.{all_done_or_want}
use Rattle.ur_top.specs.Sources.{ForReport, ForSource, OfSource, OfApplication, Compiles, IsCoded, IsCompiled, HasNoCode}
use Rattle.ur_top.specs.Ends.{World, NoCalls, SameWire, IsServed, IsWant, Ends, failed_next, IsStatus, IsUnserved, HasFiles}
use Rattle.ur_top.specs.declared.reporting.RunEnd.{RunEnd}
use Rattle.ur_top.specs.declared.reporting.RunEnd.TheVariants as end
use Rattle.ur_top.proofs.Cases.{split, nothing_in, none_cut, told_is, told_more, if_serving, of_served, at_served, of_source, from_source, no_source}
use Rattle.ur_top.proofs.Cases.{not_served, clashes, none_failed, one_failed}

-- a command that is reported of is not served
check_serves : (r : Option Reading) (p : List ℕ) → r ≡ Some (Check p) → serving r ≡ None
check_serves r p is = ap serving is

sites_serves : (r : Option Reading) (p : List ℕ) → r ≡ Some (Sites p) → serving r ≡ None
sites_serves r p is = ap serving is

load_serves : (r : Option Reading) (seed n : ℕ) → r ≡ Some (Load seed n) → serving r ≡ None
load_serves r seed n is = ap serving is

serve_serves : (r : Option Reading) (p : List ℕ) (port : ℕ) (s : _) (n : ℕ) → r ≡ Some (Serve p port s n) → serving r ≢ None
serve_serves r p port s n is none = let two = sym (ap serving is) ∙ none in cc

module _ (told : Option Files) (reading : Option Reading) (old new : World) (sessions : List SessionEnd) (status : ℕ) where
  abbrev EndsSo : RunEnd → Type 0
  EndsSo e = Ends told reading old new e sessions

  pub usage_only : (e : RunEnd) → EndsSo e → IsStatus e status → status ≡ 1 → reading ≡ None
  usage_only end.Usage (none, calls) s is = none
  usage_only e ends s is = absurd (grind (arith, s, is))

  pub usage : (e : RunEnd) → EndsSo e → IsStatus e status → reading ≡ None → Contains (1 ∷ 5 ∷ 8 ∷ []) status
  usage end.Usage ends (inl s) none = (0, omega arith, sym s)
  usage end.Usage ends (inr s) none = (1, omega arith, sym s)
  usage end.Memory ends (inl s) none = (2, omega arith, sym s)
  usage end.Memory ends (inr s) none = (1, omega arith, sym s)
  usage end.Sink ends s none = (1, omega arith, sym s)
  usage (end.Checked routes) ((p, is, its), compiled, calls) s none = absurd (cc)
  usage (end.Listed text) (listing, compiled, calls) s none = let is = listing.asked in absurd (cc)
  usage (end.Loaded r) ((seed, is, its), compiled, calls) s none = absurd (cc)
  usage (end.Refused file r) (refuses, calls) s none = absurd (no_source told reading _ none refuses)
  usage (end.Schema kept application) other s none = absurd (other.serves (not_served reading none))
  usage end.Shelf (some, rose, calls) s none = absurd (subst HasFiles none some)
  usage end.Keeper (compiled, serves, rose, calls) s none = absurd (serves (not_served reading none))
  usage end.Wire fault s none = absurd (fault.serves (not_served reading none))
  usage end.Done served s none = absurd (served.serves (not_served reading none))

  pub refused_only : (e : RunEnd) → EndsSo e → IsStatus e status → status ≡ 2 → (file : List ℕ) × ((r : Refusal) × OfSource told reading (λ files word. Refuses files word file r))
  refused_only (end.Refused file r) (refuses, calls) s is = (file, (r, refuses))
  refused_only e ends s is = absurd (grind (arith, s, is))

  -- ---- refusals

  abbrev AsRefused : Files → List ℕ → Type 0
  AsRefused files word = HasNoCode files word → Contains (2 ∷ 4 ∷ 5 ∷ 8 ∷ []) status

  as_refused : Contains (2 ∷ 4 ∷ 5 ∷ 8 ∷ []) status → ForSource told reading AsRefused
  as_refused c = of_source told reading AsRefused (λ files word none. c)

  has_code : IsCompiled told reading → ForSource told reading AsRefused
  has_code compiled = from_source told reading (λ files word. (app : Typed) × Accepts files word app × IsCoded app) AsRefused compiled
      (λ files word c none. (let its : IsCoded (c.0) = c.2 in absurd (none (c.0) its.code (c.1) its.is_code)))

  pub refused : (e : RunEnd) → EndsSo e → IsStatus e status → ForSource told reading AsRefused
  refused end.Usage (none, calls) s = subst (λ r. ForSource told r AsRefused) (sym none) tt
  refused (end.Refused file r) ends (inl s) = as_refused (0, omega arith, sym s)
  refused (end.Refused file r) ends (inr (inl s)) = as_refused (2, omega arith, sym s)
  refused (end.Refused file r) ends (inr (inr s)) = as_refused (3, omega arith, sym s)
  refused end.Shelf ends (inl s) = as_refused (1, omega arith, sym s)
  refused end.Shelf ends (inr s) = as_refused (2, omega arith, sym s)
  refused end.Memory ends (inl s) = as_refused (3, omega arith, sym s)
  refused end.Memory ends (inr s) = as_refused (2, omega arith, sym s)
  refused end.Sink ends s = as_refused (2, omega arith, sym s)
  refused (end.Checked routes) (is, compiled, calls) s = has_code compiled
  refused (end.Listed text) (is, compiled, calls) s = has_code compiled
  refused (end.Loaded r) (is, compiled, calls) s = has_code compiled
  refused (end.Schema kept application) other s = has_code other.compiled
  refused end.Keeper (compiled, serves, rose, calls) s = has_code compiled
  refused end.Wire fault s = has_code fault.compiled
  refused end.Done served s = has_code served.compiled

  -- ---- the schema

  -- the application of the files is the one that the compiler found
  module _ (one : (files : Files) (project : List ℕ) → HasOneApplication files project) where
    its : (P : Typed → Type 0) (files : Files) (s : Serving) (app : Typed) → told ≡ Some files → serving reading ≡ Some s → Accepts files s.project app → OfApplication told reading P → P app
    its P files s app t is a h =
        let found = at_served told reading (λ files word. (app : Typed) × Accepts files word app × P app) files s t is h in
        subst P (one files s.project (found.0) app (found.1) a) (found.2)

    differs_not : (kept schema : Schema) (k : KeptSchema) (saved saved' : Option Tables) → CanTake schema k → AttachesTo schema k (Differs kept) saved saved' → ⊥
    differs_not kept schema Untold saved saved' can h = can
    differs_not kept schema Empty saved saved' can h = h
    differs_not kept schema (Keeps k) saved saved' can h = absurd (false≢true (sym h.1 ∙ can))
    differs_not kept schema (Spells text tables) saved saved' can h = absurd (false≢true (sym h.1 ∙ can kept h.0))

    kept_differs : (kept application schema : Schema) (k : KeptSchema) (saved saved' : Option Tables) → application ≡ schema → CanTake schema k → AttachesTo application k (Differs kept) saved saved' → ⊥
    kept_differs kept application schema k saved saved' same can h = differs_not kept schema k saved saved' can (subst (λ z. AttachesTo z k (Differs kept) saved saved') same h)

    pub schema_only : (e : RunEnd) → EndsSo e → IsStatus e status → status ≡ 3
        → (serving reading ≢ None) × (new.saved ≡ old.saved) × (new.kept ≡ old.kept)
        × (WhereTold told (λ files. ForServing reading (λ s. (app : Typed) → Accepts files s.project app → CanTake app.schema old.kept → ⊥)))
    schema_only (end.Schema kept application) other s is = (
      other.serves,
      other.same_saved,
      other.same_kept,
      of_served told reading (λ files s. (app : Typed) → Accepts files s.project app → CanTake app.schema old.kept → ⊥)
          (λ files s t at app a can. kept_differs kept application app.schema old.kept old.saved new.saved (its (λ app. application ≡ app.schema) files s app t at a other.its) can other.attaches),
    )
    schema_only e ends s is = absurd (grind (arith, s, is))

    abbrev AsOther : Files → Serving → Type 0
    AsOther files s = (app : Typed) → Compiles files s.project app → HasOther app.schema old.kept
        → Contains (3 ∷ 4 ∷ 5 ∷ 7 ∷ 8 ∷ []) status × (sessions ≡ [])

    as_other : Contains (3 ∷ 4 ∷ 5 ∷ 7 ∷ 8 ∷ []) status → sessions ≡ [] → WhereTold told (λ files. ForServing reading (AsOther files))
    as_other c none = of_served told reading AsOther (λ files s t at app a other. (c, none))

    not_here : serving reading ≡ None → WhereTold told (λ files. ForServing reading (AsOther files))
    not_here none = of_served told reading AsOther (λ files s t at. absurd (clashes reading s none at))

    attached : OfApplication told reading (λ app. HasOther app.schema old.kept → ⊥) → WhereTold told (λ files. ForServing reading (AsOther files))
    attached h = of_served told reading AsOther (λ files s t at app a other. absurd (its (λ app. HasOther app.schema old.kept → ⊥) files s app t at (a.0) h other))

    -- where memory was wanting while serving, the schema that was kept is the application's
    as_wanting : Contains (3 ∷ 4 ∷ 5 ∷ 7 ∷ 8 ∷ []) status → IsWant told reading old new sessions → WhereTold told (λ files. ForServing reading (AsOther files))
    as_wanting c want = of_sessions (decide sessions)
      where
        decide : (l : List SessionEnd) → (l ≡ []) ⊎ (l ≢ [])
        decide [] = inl refl
        decide (s ∷ rest) = inr (λ none. cc)

        of_sessions : (sessions ≡ []) ⊎ (sessions ≢ []) → WhereTold told (λ files. ForServing reading (AsOther files))
        of_sessions (inl none) = as_other c none
        of_sessions (inr some) = attached (want.same_schema some)

    pub schema : (e : RunEnd) → EndsSo e → IsStatus e status → WhereTold told (λ files. ForServing reading (AsOther files))
    schema end.Usage (none, calls) s = not_here (not_served reading none)
    schema (end.Checked routes) ((p, is, x), compiled, calls) s = not_here (check_serves reading p is)
    schema (end.Listed text) (listing, compiled, calls) s = not_here (sites_serves reading listing.project listing.asked)
    schema (end.Loaded r) ((seed, is, x), compiled, calls) s = not_here (load_serves reading seed r.requests is)
    schema (end.Refused file r) (refuses, calls) s = of_served told reading AsOther (λ files s t at app a other. absurd ((at_served told reading (λ files word. Refuses files word file r) files s t at refuses).none app (a.0) (a.1)))
    schema (end.Schema kept application) ends (inl s) = as_other (0, omega arith, sym s) ends.no_calls.none
    schema (end.Schema kept application) ends (inr (inl s)) = as_other (2, omega arith, sym s) ends.no_calls.none
    schema (end.Schema kept application) ends (inr (inr s)) = as_other (4, omega arith, sym s) ends.no_calls.none
    schema end.Shelf (some, rose, calls) (inl s) = as_other (1, omega arith, sym s) calls.none
    schema end.Shelf (some, rose, calls) (inr s) = as_other (2, omega arith, sym s) calls.none
    schema end.Keeper (compiled, serves, rose, calls) (inl s) = as_other (3, omega arith, sym s) calls.none
    schema end.Keeper (compiled, serves, rose, calls) (inr s) = as_other (2, omega arith, sym s) calls.none
    schema end.Sink (its, calls) s = as_other (2, omega arith, sym s) calls.none
    schema end.Memory want (inl s) = as_wanting (4, omega arith, sym s) want
    schema end.Memory want (inr s) = as_wanting (2, omega arith, sym s) want
    schema end.Wire fault s = attached fault.same_schema
    schema end.Done served s = attached served.same_schema

  -- ---- faults

  pub shelf_fault : (e : RunEnd) → EndsSo e → IsStatus e status → status ≡ 4 → Rose old.shelf_faults new.shelf_faults × HasFiles reading
  shelf_fault end.Shelf (some, rose, calls) s is = (rose, some)
  shelf_fault e ends s is = absurd (grind (arith, s, is))

  pub wire_fault : (e : RunEnd) → EndsSo e → IsStatus e status → status ≡ 6 → Rose old.wire_faults new.wire_faults × IsWireStatus reading sessions
  wire_fault end.Wire fault s is = (fault.rose, fault.status)
  wire_fault e ends s is = absurd (grind (arith, s, is))

  pub keeper_fault : (e : RunEnd) → EndsSo e → IsStatus e status → status ≡ 7 → Rose old.keeper_faults new.keeper_faults × (sessions ≡ []) × (serving reading ≢ None)
  keeper_fault end.Keeper (compiled, serves, rose, calls) s is = (rose, calls.none, serves)
  keeper_fault e ends s is = absurd (grind (arith, s, is))

  -- so many calls of the wire failed beside the sessions that were cut off
  abbrev CountsTo : ℕ → Type 0
  CountsTo n = new.wire_faults ≡ count_after (wire_faults sessions + n) old.wire_faults

  abbrev Counted : Type 0
  Counted = CountsTo (next_failed reading sessions status) ⊎ ((status ≡ 5) × CountsTo 1)

  no_next : status ≢ 6 → CountsTo 0 → Counted
  no_next other by = inl (subst CountsTo (sym (none_failed reading sessions status other)) by)

  pub wire_counted : (e : RunEnd) → IsStatus e status → CountsTo (failed_next reading sessions e) → Counted
  wire_counted end.Wire (inl s) by = inl (subst (λ n. CountsTo (next_failed reading sessions n)) (sym s) by)
  wire_counted end.Wire (inr s) by = either (one_failed reading sessions)
    where
      either : (next_failed reading sessions 6 ≡ 0) ⊎ (next_failed reading sessions 6 ≡ 1) → Counted
      either (inl none) = no_next (λ is. absurd (omega (arith, s, is))) (subst CountsTo none by)
      either (inr one) = inr (s, subst CountsTo one by)
  wire_counted e s by = no_next (λ is. absurd (grind (arith, s, is))) by

  pub replay_cut : (e : RunEnd) → EndsSo e → IsStatus e status → ForServing reading (λ s. Any IsCutOff sessions → reading ≡ Some (Replay s.project s.settings) → Contains (5 ∷ 6 ∷ []) status)
  replay_cut e ends s = if_serving (serving reading) _ (λ to at any is. of_end e ends s (to.project) (to.settings) any is)
    where
      of_end : (e : RunEnd) → EndsSo e → IsStatus e status → (p : List ℕ) (set : _) → Any IsCutOff sessions → reading ≡ Some (Replay p set) → Contains (5 ∷ 6 ∷ []) status
      of_end end.Done served s p set any is = absurd (served.whole p set is any)
      of_end end.Memory want s p set any is = absurd (want.whole p set is any)
      of_end end.Wire fault (inl s) p set any is = (1, omega arith, sym s)
      of_end end.Wire fault (inr s) p set any is = (0, omega arith, sym s)
      of_end end.Usage (none, calls) s p set any is = absurd (none_cut sessions calls.none any)
      of_end (end.Checked routes) (x, compiled, calls) s p set any is = absurd (none_cut sessions calls.none any)
      of_end (end.Listed text) (x, compiled, calls) s p set any is = absurd (none_cut sessions calls.none any)
      of_end (end.Loaded r) (x, compiled, calls) s p set any is = absurd (none_cut sessions calls.none any)
      of_end (end.Refused file r) (refuses, calls) s p set any is = absurd (none_cut sessions calls.none any)
      of_end (end.Schema kept application) other s p set any is = absurd (none_cut sessions other.no_calls.none any)
      of_end end.Shelf (some, rose, calls) s p set any is = absurd (none_cut sessions calls.none any)
      of_end end.Keeper (compiled, serves, rose, calls) s p set any is = absurd (none_cut sessions calls.none any)
      of_end end.Sink (x, calls) s p set any is = absurd (none_cut sessions calls.none any)

  -- ---- what is left out

  abbrev Left : Traffic → Serving → Type 0
  Left t s = LeftOut (1 ∷ 2 ∷ 3 ∷ 4 ∷ 5 ∷ 6 ∷ 7 ∷ 8 ∷ []) s.most (length t.coming) status sessions

  left_by : Contains (1 ∷ 2 ∷ 3 ∷ 4 ∷ 5 ∷ 6 ∷ 7 ∷ 8 ∷ []) status → WhereTold old.wire (λ t. ForServing reading (Left t))
  left_by c = told_is old.wire _ (λ t told. if_serving (serving reading) _ (λ s at. inr (inr c)))

  left_not : serving reading ≡ None → WhereTold old.wire (λ t. ForServing reading (Left t))
  left_not none = told_is old.wire _ (λ t told. if_serving (serving reading) _ (λ s at. absurd (clashes reading s none at)))

  pub left_out : (e : RunEnd) → EndsSo e → IsStatus e status → WhereTold old.wire (λ t. ForServing reading (Left t))
  left_out end.Done served s = told_more old.wire _ _ served.all (λ t all. for_all (serving reading) t all)
    where
      as_left : (t : Traffic) (s : Serving) → (length sessions ≡ min s.most (length t.coming)) ⊎ HasAllMarks sessions → Left t s
      as_left t s (inl all) = inl all
      as_left t s (inr over) = inr (inl over)

      for_all : (o : Option Serving) (t : Traffic) → IfServing o (λ s. (length sessions ≡ min s.most (length t.coming)) ⊎ HasAllMarks sessions) → IfServing o (Left t)
      for_all None t h = tt
      for_all (Some s) t h = as_left t s h
  left_out end.Usage (none, calls) s = left_not (not_served reading none)
  left_out (end.Checked routes) ((p, is, x), compiled, calls) s = left_not (check_serves reading p is)
  left_out (end.Listed text) (listing, compiled, calls) s = left_not (sites_serves reading listing.project listing.asked)
  left_out (end.Loaded r) ((seed, is, x), compiled, calls) s = left_not (load_serves reading seed r.requests is)
  left_out (end.Refused file r) ends (inl s) = left_by (1, omega arith, sym s)
  left_out (end.Refused file r) ends (inr (inl s)) = left_by (4, omega arith, sym s)
  left_out (end.Refused file r) ends (inr (inr s)) = left_by (7, omega arith, sym s)
  left_out (end.Schema kept application) ends (inl s) = left_by (2, omega arith, sym s)
  left_out (end.Schema kept application) ends (inr (inl s)) = left_by (4, omega arith, sym s)
  left_out (end.Schema kept application) ends (inr (inr s)) = left_by (7, omega arith, sym s)
  left_out end.Shelf ends (inl s) = left_by (3, omega arith, sym s)
  left_out end.Shelf ends (inr s) = left_by (4, omega arith, sym s)
  left_out end.Keeper ends (inl s) = left_by (6, omega arith, sym s)
  left_out end.Keeper ends (inr s) = left_by (4, omega arith, sym s)
  left_out end.Wire ends (inl s) = left_by (5, omega arith, sym s)
  left_out end.Wire ends (inr s) = left_by (4, omega arith, sym s)
  left_out end.Sink ends s = left_by (4, omega arith, sym s)
  left_out end.Memory ends (inl s) = left_by (7, omega arith, sym s)
  left_out end.Memory ends (inr s) = left_by (4, omega arith, sym s)

  -- ---- where serving did not begin

  one_of : Contains (1 ∷ 2 ∷ 3 ∷ 4 ∷ 7 ∷ []) status → (status ≡ 1) ⊎ ((status ≡ 2) ⊎ ((status ≡ 3) ⊎ ((status ≡ 4) ⊎ (status ≡ 7))))
  one_of c = first (split 1 status (2 ∷ 3 ∷ 4 ∷ 7 ∷ []) c)
    where
      fifth : (status ≡ 7) ⊎ Contains [] status → status ≡ 7
      fifth (inl e) = e
      fifth (inr c) = absurd (nothing_in status c)

      fourth : (status ≡ 4) ⊎ Contains (7 ∷ []) status → (status ≡ 4) ⊎ (status ≡ 7)
      fourth (inl e) = inl e
      fourth (inr c) = inr (fifth (split 7 status [] c))

      third : (status ≡ 3) ⊎ Contains (4 ∷ 7 ∷ []) status → (status ≡ 3) ⊎ ((status ≡ 4) ⊎ (status ≡ 7))
      third (inl e) = inl e
      third (inr c) = inr (fourth (split 4 status (7 ∷ []) c))

      second : (status ≡ 2) ⊎ Contains (3 ∷ 4 ∷ 7 ∷ []) status → (status ≡ 2) ⊎ ((status ≡ 3) ⊎ ((status ≡ 4) ⊎ (status ≡ 7)))
      second (inl e) = inl e
      second (inr c) = inr (third (split 3 status (4 ∷ 7 ∷ []) c))

      first : (status ≡ 1) ⊎ Contains (2 ∷ 3 ∷ 4 ∷ 7 ∷ []) status → (status ≡ 1) ⊎ ((status ≡ 2) ⊎ ((status ≡ 3) ⊎ ((status ≡ 4) ⊎ (status ≡ 7))))
      first (inl e) = inl e
      first (inr c) = inr (second (split 2 status (3 ∷ 4 ∷ 7 ∷ []) c))

  pub not_begun : (e : RunEnd) → EndsSo e → IsStatus e status → Contains (1 ∷ 2 ∷ 3 ∷ 4 ∷ 7 ∷ []) status → NoCalls old new sessions
  not_begun end.Usage (none, calls) s c = calls
  not_begun (end.Refused file r) (refuses, calls) s c = calls
  not_begun (end.Schema kept application) other s c = other.no_calls
  not_begun end.Shelf (some, rose, calls) s c = calls
  not_begun end.Keeper (compiled, serves, rose, calls) s c = calls
  not_begun (end.Checked routes) (x, compiled, calls) s c = calls
  not_begun (end.Listed text) (x, compiled, calls) s c = calls
  not_begun (end.Loaded r) (x, compiled, calls) s c = calls
  not_begun end.Sink (x, calls) s c = calls
  not_begun end.Done ends s c = let which = one_of c in absurd (grind (arith, s, which))
  not_begun end.Wire ends s c = let which = one_of c in absurd (grind (arith, s, which))
  not_begun end.Memory ends s c = let which = one_of c in absurd (grind (arith, s, which))

  pub unserved : (e : RunEnd) → IsStatus e status → Contains (1 ∷ 2 ∷ 3 ∷ 4 ∷ 7 ∷ []) status → IsUnserved e
  unserved end.Done s c = let which = one_of c in absurd (grind (arith, s, which))
  unserved end.Wire s c = let which = one_of c in absurd (grind (arith, s, which))
  unserved end.Memory s c = let which = one_of c in absurd (grind (arith, s, which))
  unserved end.Sink s c = let which = one_of c in absurd (grind (arith, s, which))
  unserved e s c = tt

  zero_or_six : Contains (0 ∷ 6 ∷ []) status → (status ≡ 0) ⊎ (status ≡ 6)
  zero_or_six c = first (split 0 status (6 ∷ []) c)
    where
      second : (status ≡ 6) ⊎ Contains [] status → status ≡ 6
      second (inl e) = e
      second (inr c) = absurd (nothing_in status c)

      first : (status ≡ 0) ⊎ Contains (6 ∷ []) status → (status ≡ 0) ⊎ (status ≡ 6)
      first (inl e) = inl e
      first (inr c) = inr (second (split 6 status [] c))

  by_status : sessions ≡ [] → (Contains (0 ∷ 6 ∷ []) status ⊎ (sessions ≢ [])) → (status ≡ 0) ⊎ (status ≡ 6)
  by_status empty (inl c) = zero_or_six c
  by_status empty (inr some) = absurd (some empty)

  pub no_current : (e : RunEnd) → EndsSo e → IsStatus e status → ForServing reading (λ s. Contains (0 ∷ 6 ∷ []) status ⊎ (sessions ≢ []) → new.current ≡ false)
  no_current e ends s = if_serving (serving reading) _ (λ to at which. of_end e ends s to at which)
    where
      of_end : (e : RunEnd) → EndsSo e → IsStatus e status → (to : Serving) → serving reading ≡ Some to → Contains (0 ∷ 6 ∷ []) status ⊎ (sessions ≢ []) → new.current ≡ false
      of_end end.Done served s to at which = served.none_current
      of_end end.Wire fault s to at which = fault.none_current
      of_end end.Memory want s to at (inl c) = let which = zero_or_six c in absurd (grind (arith, s, which))
      of_end end.Memory want s to at (inr some) = want.none_current some
      of_end end.Usage (none, calls) s to at which = absurd (clashes reading to (not_served reading none) at)
      of_end (end.Checked routes) ((p, is, x), compiled, calls) s to at which = absurd (clashes reading to (check_serves reading p is) at)
      of_end (end.Listed text) (listing, compiled, calls) s to at which = absurd (clashes reading to (sites_serves reading listing.project listing.asked) at)
      of_end (end.Loaded r) ((seed, is, x), compiled, calls) s to at which = absurd (clashes reading to (load_serves reading seed r.requests is) at)
      of_end (end.Refused file r) (refuses, calls) s to at which = let is = by_status calls.none which in absurd (grind (arith, s, is))
      of_end (end.Schema kept application) other s to at which = let is = by_status other.no_calls.none which in absurd (grind (arith, s, is))
      of_end end.Shelf (some, rose, calls) s to at which = let is = by_status calls.none which in absurd (grind (arith, s, is))
      of_end end.Keeper (compiled, serves, rose, calls) s to at which = let is = by_status calls.none which in absurd (grind (arith, s, is))
      of_end end.Sink (x, calls) s to at which = let is = by_status calls.none which in absurd (grind (arith, s, is))

  pub statuses : (e : RunEnd) → IsStatus e status → Contains (0 ∷ 1 ∷ 2 ∷ 3 ∷ 4 ∷ 5 ∷ 6 ∷ 7 ∷ 8 ∷ []) status
  statuses end.Done s = (0, omega arith, sym s)
  statuses (end.Checked routes) (inl s) = (0, omega arith, sym s)
  statuses (end.Checked routes) (inr (inl s)) = (5, omega arith, sym s)
  statuses (end.Checked routes) (inr (inr s)) = (8, omega arith, sym s)
  statuses (end.Listed text) (inl s) = (0, omega arith, sym s)
  statuses (end.Listed text) (inr s) = (5, omega arith, sym s)
  statuses (end.Loaded r) (inl s) = (0, omega arith, sym s)
  statuses (end.Loaded r) (inr (inl s)) = (5, omega arith, sym s)
  statuses (end.Loaded r) (inr (inr s)) = (8, omega arith, sym s)
  statuses end.Usage (inl s) = (1, omega arith, sym s)
  statuses end.Usage (inr s) = (5, omega arith, sym s)
  statuses (end.Refused file r) (inl s) = (2, omega arith, sym s)
  statuses (end.Refused file r) (inr (inl s)) = (5, omega arith, sym s)
  statuses (end.Refused file r) (inr (inr s)) = (8, omega arith, sym s)
  statuses (end.Schema kept application) (inl s) = (3, omega arith, sym s)
  statuses (end.Schema kept application) (inr (inl s)) = (5, omega arith, sym s)
  statuses (end.Schema kept application) (inr (inr s)) = (8, omega arith, sym s)
  statuses end.Shelf (inl s) = (4, omega arith, sym s)
  statuses end.Shelf (inr s) = (5, omega arith, sym s)
  statuses end.Sink s = (5, omega arith, sym s)
  statuses end.Wire (inl s) = (6, omega arith, sym s)
  statuses end.Wire (inr s) = (5, omega arith, sym s)
  statuses end.Keeper (inl s) = (7, omega arith, sym s)
  statuses end.Keeper (inr s) = (5, omega arith, sym s)
  statuses end.Memory (inl s) = (8, omega arith, sym s)
  statuses end.Memory (inr s) = (5, omega arith, sym s)

  -- ---- the wire where there is no session

  abbrev Uncalled : Type 0
  Uncalled = SameWire old new

  uncalled : NoCalls old new sessions → Uncalled
  uncalled calls = (calls.same_wire, calls.same_faults, calls.same_current)

  module _ (none : sessions ≡ []) where
    pub memory_wanting : (e : RunEnd) → EndsSo e → IsStatus e status → (e ≡ end.Memory → Uncalled) → status ≡ 8 → Uncalled
    memory_wanting end.Memory want s still is = still refl
    memory_wanting end.Usage (wordless, calls) s still is = uncalled calls
    memory_wanting (end.Checked routes) (x, compiled, calls) s still is = uncalled calls
    memory_wanting (end.Listed text) (listing, compiled, calls) s still is = uncalled calls
    memory_wanting (end.Loaded r) (x, compiled, calls) s still is = uncalled calls
    memory_wanting (end.Refused file r) (refuses, calls) s still is = uncalled calls
    memory_wanting (end.Schema kept application) other s still is = uncalled other.no_calls
    memory_wanting end.Shelf (some, rose, calls) s still is = uncalled calls
    memory_wanting end.Keeper (compiled, serves, rose, calls) s still is = uncalled calls
    memory_wanting end.Sink (x, calls) s still is = uncalled calls
    memory_wanting end.Wire fault s still is = absurd (grind (arith, s, is))
    memory_wanting end.Done served s still is = absurd (grind (arith, s, is))

    pub unsaid : (e : RunEnd) → EndsSo e → IsStatus e status → (e ≡ end.Memory → Uncalled) → status ≡ 5 → Uncalled ⊎ (new.current ≡ false)
    unsaid end.Memory want s still is = inl (still refl)
    unsaid end.Usage (wordless, calls) s still is = inl (uncalled calls)
    unsaid (end.Checked routes) (x, compiled, calls) s still is = inl (uncalled calls)
    unsaid (end.Listed text) (listing, compiled, calls) s still is = inl (uncalled calls)
    unsaid (end.Loaded r) (x, compiled, calls) s still is = inl (uncalled calls)
    unsaid (end.Refused file r) (refuses, calls) s still is = inl (uncalled calls)
    unsaid (end.Schema kept application) other s still is = inl (uncalled other.no_calls)
    unsaid end.Shelf (some, rose, calls) s still is = inl (uncalled calls)
    unsaid end.Keeper (compiled, serves, rose, calls) s still is = inl (uncalled calls)
    unsaid end.Sink (x, calls) s still is = inl (uncalled calls)
    unsaid end.Wire fault s still is = inr fault.none_current
    unsaid end.Done served s still is = inr served.none_current

  -- ---- completeness

  module _ (one : (files : Files) (project : List ℕ) → HasOneApplication files project) (sink : Type 0) (fault : status ≡ 5 → sink)
      (keeper : RoseBy (keeper_faults sessions) old.keeper_faults new.keeper_faults) where
    abbrev Whole : Serving → Type 0
    Whole s = Contains (0 ∷ 8 ∷ []) status × WhereTold old.wire (λ t. WantsMemory status sessions ⊎ IsWhole s.most (length t.coming) status sessions)

    abbrev AsWhole : Files → Serving → Type 0
    AsWhole files s = (app : Typed) → Compiles files s.project app → CanTake app.schema old.kept
        → ¬ (Rose old.shelf_faults new.shelf_faults) → ¬ (Rose old.wire_faults new.wire_faults) → ¬ (Rose old.keeper_faults new.keeper_faults) → ¬ sink → Whole s

    wanting : (s : Serving) → status ≡ 8 → Whole s
    wanting s is = ((1, omega arith, sym is), told_is old.wire _ (λ t told. inl (inl is)))

    whole : (served : IsServed told reading old new sessions) → status ≡ 0 → (s : Serving) → serving reading ≡ Some s → ¬ (Rose old.keeper_faults new.keeper_faults) → Whole s
    whole served is s at none = ((0, omega arith, sym is), told_more old.wire _ _ served.all (λ t all. each t (one_serving (serving reading) at t all) (all_done_or_want sessions old.keeper_faults new.keeper_faults keeper none)))
      where
        one_serving : (o : Option Serving) → o ≡ Some s → (t : Traffic) → IfServing o (λ s. (length sessions ≡ min s.most (length t.coming)) ⊎ HasAllMarks sessions) → (length sessions ≡ min s.most (length t.coming)) ⊎ HasAllMarks sessions
        one_serving o at t h = subst (λ z. IfServing z (λ s. (length sessions ≡ min s.most (length t.coming)) ⊎ HasAllMarks sessions)) at h

        each : (t : Traffic) → (length sessions ≡ min s.most (length t.coming)) ⊎ HasAllMarks sessions → AllDone sessions ⊎ AnyWants sessions
            → WantsMemory status sessions ⊎ IsWhole s.most (length t.coming) status sessions
        each t all (inl done) = inr (record { done = is; marked = done; all = all })
        each t all (inr wants) = inl (inr wants)

    pub complete : (e : RunEnd) → EndsSo e → IsStatus e status → WhereTold told (λ files. ForServing reading (AsWhole files))
    complete e ends s = of_served told reading AsWhole (λ files to t at app c kept shelf wire none out. of_end e ends s files to t at app c kept shelf wire none out)
      where
        of_end : (e : RunEnd) → EndsSo e → IsStatus e status → (files : Files) (to : Serving) → told ≡ Some files → serving reading ≡ Some to → AsWhole files to
        of_end end.Done served s files to t at app c kept shelf wire none out = whole served s to at none
        of_end end.Memory want (inl s) files to t at app c kept shelf wire none out = wanting to s
        of_end end.Memory want (inr s) files to t at app c kept shelf wire none out = absurd (out (fault s))
        of_end end.Usage (wordless, calls) s files to t at app c kept shelf wire none out = absurd (clashes reading to (not_served reading wordless) at)
        of_end (end.Checked routes) ((p, is, x), compiled, calls) s files to t at app c kept shelf wire none out = absurd (clashes reading to (check_serves reading p is) at)
        of_end (end.Listed text) (listing, compiled, calls) s files to t at app c kept shelf wire none out = absurd (clashes reading to (sites_serves reading listing.project listing.asked) at)
        of_end (end.Loaded r) ((seed, is, x), compiled, calls) s files to t at app c kept shelf wire none out = absurd (clashes reading to (load_serves reading seed r.requests is) at)
        of_end (end.Refused file r) (refuses, calls) s files to t at app c kept shelf wire none out = absurd ((at_served told reading (λ files word. Refuses files word file r) files to t at refuses).none app (c.0) (c.1))
        of_end (end.Schema other application) differs s files to t at app c kept shelf wire none out =
            absurd (kept_differs one other application app.schema old.kept old.saved new.saved (its one (λ app. application ≡ app.schema) files to app t at (c.0) differs.its) kept differs.attaches)
        of_end end.Shelf (some, rose, calls) s files to t at app c kept shelf wire none out = absurd (shelf rose)
        of_end end.Keeper (compiled, serves, rose, calls) s files to t at app c kept shelf wire none out = absurd (none rose)
        of_end end.Sink (x, calls) s files to t at app c kept shelf wire none out = absurd (out (fault s))
        of_end end.Wire its_fault s files to t at app c kept shelf wire none out = absurd (wire its_fault.rose)

  -- the commands that report
  module _ (sink : Type 0) (fault : status ≡ 5 → sink) where
    abbrev AsReported : Files → List ℕ → Type 0
    AsReported files p = (app : Typed) → Compiles files p app → ¬ (Rose old.shelf_faults new.shelf_faults) → ¬ sink → Contains (0 ∷ 8 ∷ []) status

    reported : (r : Option Reading) (p : List ℕ) → reading ≡ r → serving r ≡ None → ((file : List ℕ) (f : Refusal) (files : Files) → told ≡ Some files → OfSource told r (λ files word. Refuses files word file f) → Refuses files p file f)
        → (r ≡ None → ⊥) → (e : RunEnd) → EndsSo e → IsStatus e status → WhereTold told (λ files. AsReported files p)
    reported r p is none refusal some end.Usage (wordless, calls) s = absurd (some (sym is ∙ wordless))
    reported r p is none refusal some (end.Checked routes) ends (inl s) = told_is told _ (λ files t app c shelf out. (0, omega arith, sym s))
    reported r p is none refusal some (end.Checked routes) ends (inr (inl s)) = told_is told _ (λ files t app c shelf out. absurd (out (fault s)))
    reported r p is none refusal some (end.Checked routes) ends (inr (inr s)) = told_is told _ (λ files t app c shelf out. (1, omega arith, sym s))
    reported r p is none refusal some (end.Listed text) ends (inl s) = told_is told _ (λ files t app c shelf out. (0, omega arith, sym s))
    reported r p is none refusal some (end.Listed text) ends (inr s) = told_is told _ (λ files t app c shelf out. absurd (out (fault s)))
    reported r p is none refusal some (end.Loaded x) ends (inl s) = told_is told _ (λ files t app c shelf out. (0, omega arith, sym s))
    reported r p is none refusal some (end.Loaded x) ends (inr (inl s)) = told_is told _ (λ files t app c shelf out. absurd (out (fault s)))
    reported r p is none refusal some (end.Loaded x) ends (inr (inr s)) = told_is told _ (λ files t app c shelf out. (1, omega arith, sym s))
    reported r p is none refusal some (end.Refused file f) (refuses, calls) s =
        told_is told _ (λ files t app c shelf out. absurd ((refusal file f files t (subst (λ z. OfSource told z (λ files word. Refuses files word file f)) is refuses)).none app (c.0) (c.1)))
    reported r p is none refusal some (end.Schema kept application) other s = absurd (other.serves (ap serving is ∙ none))
    reported r p is none refusal some end.Shelf (x, rose, calls) s = told_is told _ (λ files t app c shelf out. absurd (shelf rose))
    reported r p is none refusal some end.Keeper (compiled, serves, rose, calls) s = absurd (serves (ap serving is ∙ none))
    reported r p is none refusal some end.Sink ((q, port, set, n, at), calls) s = absurd (serve_serves reading q port set n at (ap serving is ∙ none))
    reported r p is none refusal some end.Wire wire s = absurd (wire.serves (ap serving is ∙ none))
    reported r p is none refusal some end.Done served s = absurd (served.serves (ap serving is ∙ none))
    reported r p is none refusal some end.Memory ends (inl s) = told_is told _ (λ files t app c shelf out. (1, omega arith, sym s))
    reported r p is none refusal some end.Memory ends (inr s) = told_is told _ (λ files t app c shelf out. absurd (out (fault s)))

    each_report : (r : Option Reading) → reading ≡ r → (e : RunEnd) → EndsSo e → IsStatus e status → WhereTold told (λ files. ForReport r (AsReported files))
    each_report None is e ends s = told_is told _ (λ files t. tt)
    each_report (Some (Check p)) is e ends s = reported (Some (Check p)) p is refl (λ file f files t h. subst (λ z. WhereTold z (λ files. Refuses files p file f)) t h) (λ n. cc) e ends s
    each_report (Some (Sites p)) is e ends s = reported (Some (Sites p)) p is refl (λ file f files t h. subst (λ z. WhereTold z (λ files. Refuses files p file f)) t h) (λ n. cc) e ends s
    each_report (Some (Replay p x)) is e ends s = told_is told _ (λ files t. tt)
    each_report (Some (Serve p port x n)) is e ends s = told_is told _ (λ files t. tt)
    each_report (Some (Load seed n)) is e ends s = told_is told _ (λ files t. tt)

    pub complete_report : (e : RunEnd) → EndsSo e → IsStatus e status → WhereTold told (λ files. ForReport reading (AsReported files))
    complete_report e ends s = each_report reading refl e ends s

    abbrev AsLoaded : Files → List ℕ → Type 0
    AsLoaded files word = (app : Typed) → Compiles files word app → ¬ sink → Contains (0 ∷ 8 ∷ []) status

    as_loaded : Contains (0 ∷ 8 ∷ []) status → ForSource told reading AsLoaded
    as_loaded c = of_source told reading AsLoaded (λ files word app compiles out. c)

    failed : status ≡ 5 → ForSource told reading AsLoaded
    failed s = of_source told reading AsLoaded (λ files word app compiles out. absurd (out (fault s)))

    pub complete_load : (seed n : ℕ) → reading ≡ Some (Load seed n) → (e : RunEnd) → EndsSo e → IsStatus e status → ForSource told reading AsLoaded
    complete_load seed n is (end.Checked routes) ends (inl s) = as_loaded (0, omega arith, sym s)
    complete_load seed n is (end.Checked routes) ends (inr (inl s)) = failed s
    complete_load seed n is (end.Checked routes) ends (inr (inr s)) = as_loaded (1, omega arith, sym s)
    complete_load seed n is (end.Listed text) ends (inl s) = as_loaded (0, omega arith, sym s)
    complete_load seed n is (end.Listed text) ends (inr s) = failed s
    complete_load seed n is (end.Loaded r) ends (inl s) = as_loaded (0, omega arith, sym s)
    complete_load seed n is (end.Loaded r) ends (inr (inl s)) = failed s
    complete_load seed n is (end.Loaded r) ends (inr (inr s)) = as_loaded (1, omega arith, sym s)
    complete_load seed n is end.Memory ends (inl s) = as_loaded (1, omega arith, sym s)
    complete_load seed n is end.Memory ends (inr s) = failed s
    complete_load seed n is end.Usage (none, calls) s = absurd (cc)
    complete_load seed n is (end.Refused file r) (refuses, calls) s =
        from_source told reading (λ files word. Refuses files word file r) AsLoaded refuses (λ files word x app c out. absurd (x.none app (c.0) (c.1)))
    complete_load seed n is (end.Schema kept application) other s = absurd (other.serves (load_serves reading seed n is))
    complete_load seed n is end.Shelf (some, rose, calls) s = absurd (subst HasFiles is some)
    complete_load seed n is end.Keeper (compiled, serves, rose, calls) s = absurd (serves (load_serves reading seed n is))
    complete_load seed n is end.Sink ((q, port, set, m, at), calls) s = absurd (serve_serves reading q port set m at (load_serves reading seed n is))
    complete_load seed n is end.Wire wire s = absurd (wire.serves (load_serves reading seed n is))
    complete_load seed n is end.Done served s = absurd (served.serves (load_serves reading seed n is))
