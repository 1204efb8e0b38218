-- What a run says that obeyed its words and then reported: one lemma a clause.
use Rattle.std.proofs.Common.{◌≡◌, ◌≢◌, ◌⊎◌, inl, inr, ℕ, ◌+◌, ◌≤◌, false, List, [], ◌∷◌, ◌++◌, length, Option, Some, None, Contains, Any, ap, subst, arith}
use Rattle.ur_base.specs.Counts.{Rose}
use Rattle.ur_base.specs.Told.{WhereTold}
use Rattle.ur_base.specs.declared.refusal.Refusal.{Refusal}
use Rattle.ur_io.specs.Calls.{count_after}
use Rattle.ur_io.specs.Files.{Files}
use Rattle.ur_io.specs.declared.session.SessionEnd.{SessionEnd}
use Rattle.ur_words.specs.declared.reading.Reading.{Reading}
use Rattle.ur_words.specs.declared.reading.Reading.TheVariants.{Replay, Load}
use Rattle.ur_values.specs.declared.schema.Schema.{Schema}
use Rattle.ur_keeper.specs.Keeper.{CanTake, HasOther}
use Rattle.ur_tree.specs.declared.typed.Typed.{Typed}
use Rattle.ur_compile.specs.Accepts.{HasOneApplication}
use Rattle.ur_compile.specs.Explains.{Refuses}
use Rattle.ur_headline.specs.Counting.{wire_faults, next_failed, IsCutOff, IsWireStatus, LeftOut, WantsMemory, IsWhole}
use Rattle.ur_headline.specs.Readings.{serving, ForServing}
use Rattle.ur_top.specs.Ends.{World, HasFiles, NoCalls, SameWire, IsSaid, IsStatus, Reports}
use Rattle.ur_top.specs.Obeyed.{Obeyed}
use Rattle.ur_top.specs.Prints.{Prints}
use Rattle.ur_top.specs.Sources.{ForReport, ForSource, OfSource, ForApplication, Compiles, HasNoCode}
use Rattle.ur_top.specs.declared.reporting.RunEnd.{RunEnd}
use Rattle.ur_top.specs.declared.reporting.RunEnd.TheVariants as end
use Rattle.ur_top.proofs.Cases.{of_source}
use Rattle.ur_top.proofs.Statuses as of
use Rattle.ur_top.proofs.Printing.{rises_of, prints, joined}

-- ---- the sink

rose_before : (old mid new : ℕ) → Rose old mid → mid ≤ new → Rose old new
rose_before old mid new rose later = grind (arith, rose, later)

rose_behind : (old mid new : ℕ) → old ≤ mid → Rose mid new → Rose old new
rose_behind old mid new later rose = grind (arith, later, rose)

-- status 5 comes of a fault of the sink: in the first line, or in the report
pub sink_fault : (e : RunEnd) (status old mid new : ℕ) → (e ≡ end.Sink → Rose old mid) → old ≤ mid → (status ≡ 5 → (e ≡ end.Sink) ⊎ Rose mid new) → mid ≤ new
    → status ≡ 5 → Rose old new
sink_fault e status old mid new first later fault later' five = either (fault five)
  where
    either : (e ≡ end.Sink) ⊎ Rose mid new → Rose old new
    either (inl is) = rose_before old mid new (first is) later'
    either (inr rose) = rose_behind old mid new later rose

pub later : (old mid new : ℕ) → old ≤ mid → mid ≤ new → old ≤ new
later old mid new a b = omega (arith, a, b)

-- what was printed before serving stands at the front of all that is printed
pub line_first : (o mid new : Option (List ℕ)) (line : List ℕ) (R : List ℕ → Type 0) → WhereTold o (λ before. mid ≡ Some (before ++ line))
    → WhereTold mid (λ before. (said : List ℕ) × (new ≡ Some (before ++ said)) × R said) → WhereTold o (λ before. (rest : List ℕ) × (new ≡ Some (before ++ line ++ rest)))
line_first None mid new line R first then = tt
line_first (Some before) mid new line R first then = let all = subst (λ m. WhereTold m (λ before. (said : List ℕ) × (new ≡ Some (before ++ said)) × R said)) first then in (all.0, all.1)

-- ---- the statuses and the rest

module _ {told : Option Files} {tells : Type 0} {reading : Option Reading} {old new : World} {e : RunEnd} {sessions : List SessionEnd}
    (status : ℕ) (obeyed : Obeyed told tells reading old new e sessions) (is : IsStatus e status) where
  pub statuses : Contains (0 ∷ 1 ∷ 2 ∷ 3 ∷ 4 ∷ 5 ∷ 6 ∷ 7 ∷ 8 ∷ []) status
  statuses = of.statuses told reading old new sessions status e is

  pub usage_only : status ≡ 1 → reading ≡ None
  usage_only = of.usage_only told reading old new sessions status e obeyed.ends is

  pub usage : reading ≡ None → Contains (1 ∷ 5 ∷ 8 ∷ []) status
  usage = of.usage told reading old new sessions status e obeyed.ends is

  pub refused_only : status ≡ 2 → (file : List ℕ) × ((r : Refusal) × OfSource told reading (λ files word. Refuses files word file r))
  refused_only = of.refused_only told reading old new sessions status e obeyed.ends is

  pub refused : ForSource told reading (λ files word. HasNoCode files word → Contains (2 ∷ 4 ∷ 5 ∷ 8 ∷ []) status)
  refused = of.refused told reading old new sessions status e obeyed.ends is

  pub shelf_fault : status ≡ 4 → Rose old.shelf_faults new.shelf_faults × HasFiles reading
  shelf_fault = of.shelf_fault told reading old new sessions status e obeyed.ends is

  pub wire_fault : status ≡ 6 → Rose old.wire_faults new.wire_faults × IsWireStatus reading sessions
  wire_fault = of.wire_fault told reading old new sessions status e obeyed.ends is

  pub keeper_fault : status ≡ 7 → Rose old.keeper_faults new.keeper_faults × (sessions ≡ []) × (serving reading ≢ None)
  keeper_fault = of.keeper_fault told reading old new sessions status e obeyed.ends is

  pub wire_counted : (new.wire_faults ≡ count_after (wire_faults sessions + next_failed reading sessions status) old.wire_faults)
      ⊎ ((status ≡ 5) × (new.wire_faults ≡ count_after (wire_faults sessions + 1) old.wire_faults))
  wire_counted = of.wire_counted told reading old new sessions status e is obeyed.wire_counted

  pub replay_cut : ForServing reading (λ s. Any IsCutOff sessions → reading ≡ Some (Replay s.project s.settings) → Contains (5 ∷ 6 ∷ []) status)
  replay_cut = of.replay_cut told reading old new sessions status e obeyed.ends is

  pub left_out : WhereTold old.wire (λ t. ForServing reading (λ s. LeftOut (1 ∷ 2 ∷ 3 ∷ 4 ∷ 5 ∷ 6 ∷ 7 ∷ 8 ∷ []) s.most (length t.coming) status sessions))
  left_out = of.left_out told reading old new sessions status e obeyed.ends is

  pub no_current : ForServing reading (λ s. Contains (0 ∷ 6 ∷ []) status ⊎ (sessions ≢ []) → new.current ≡ false)
  no_current = of.no_current told reading old new sessions status e obeyed.ends is

  pub not_begun : Contains (1 ∷ 2 ∷ 3 ∷ 4 ∷ 7 ∷ []) status → (sessions ≡ []) × SameWire old new
  not_begun which = let calls : NoCalls old new sessions = of.not_begun told reading old new sessions status e obeyed.ends is which in
      (calls.none, (calls.same_wire, calls.same_faults, calls.same_current))

  pub wanting : status ≡ 8 → sessions ≡ [] → SameWire old new
  wanting eight none = of.memory_wanting told reading old new sessions status none e obeyed.ends is (obeyed.wanting none) eight

  pub unsaid : status ≡ 5 → sessions ≡ [] → SameWire old new ⊎ (new.current ≡ false)
  unsaid five none = of.unsaid told reading old new sessions status none e obeyed.ends is (obeyed.wanting none) five

  pub unserved : Contains (1 ∷ 2 ∷ 3 ∷ 4 ∷ 7 ∷ []) status → (new.saved ≡ old.saved) × (new.kept ≡ old.kept)
  unserved which = obeyed.unserved (of.unserved told reading old new sessions status e is which)

  -- ---- what rests on there being one application

  module _ (one : (files : Files) (project : List ℕ) → HasOneApplication files project) where
    pub one_application : ForSource told reading (λ files word. HasOneApplication files word)
    one_application = of_source told reading (λ files word. HasOneApplication files word) one

    pub schema_only : status ≡ 3 → ForApplication told reading (λ s app. CanTake app.schema old.kept → ⊥)
    schema_only three = (of.schema_only told reading old new sessions status one e obeyed.ends is three).3

    pub schema_left : status ≡ 3 → (serving reading ≢ None) × (new.saved ≡ old.saved) × (new.kept ≡ old.kept)
    schema_left three = let all = of.schema_only told reading old new sessions status one e obeyed.ends is three in (all.0, all.1, all.2)

    pub schema : WhereTold told (λ files. ForServing reading (λ s. (app : Typed) → Compiles files s.project app → HasOther app.schema old.kept
        → Contains (3 ∷ 4 ∷ 5 ∷ 7 ∷ 8 ∷ []) status × (sessions ≡ [])))
    schema = of.schema told reading old new sessions status one e obeyed.ends is

    pub complete : (sink : Type 0) → (status ≡ 5 → sink) → WhereTold told (λ files. ForServing reading (λ s. (app : Typed) → Compiles files s.project app
        → CanTake app.schema old.kept → ¬ (Rose old.shelf_faults new.shelf_faults) → ¬ (Rose old.wire_faults new.wire_faults)
        → ¬ (Rose old.keeper_faults new.keeper_faults) → ¬ sink → Contains (0 ∷ 8 ∷ []) status
        × WhereTold old.wire (λ t. WantsMemory status sessions ⊎ IsWhole s.most (length t.coming) status sessions)))
    complete sink fault = of.complete told reading old new sessions status one sink fault obeyed.keeper_rose e obeyed.ends is

  pub complete_report : (sink : Type 0) → (status ≡ 5 → sink) → WhereTold told (λ files. ForReport reading (λ p. (app : Typed) → Compiles files p app
      → ¬ (Rose old.shelf_faults new.shelf_faults) → ¬ sink → Contains (0 ∷ 8 ∷ []) status))
  complete_report sink fault = of.complete_report told reading old new sessions status sink fault e obeyed.ends is

  pub complete_load : (sink : Type 0) → (status ≡ 5 → sink) → (seed n : ℕ) → reading ≡ Some (Load seed n)
      → ForSource told reading (λ files word. (app : Typed) → Compiles files word app → ¬ sink → Contains (0 ∷ 8 ∷ []) status)
  complete_load sink fault seed n asked = of.complete_load told reading old new sessions status sink fault seed n asked e obeyed.ends is

  -- ---- what is printed

  pub printed : (o mid now : Option (List ℕ)) → WhereTold o (λ before. (text : List ℕ) × (mid ≡ Some (before ++ text)) × IsSaid reading e text)
      → WhereTold mid (λ before. (text : List ℕ) × (now ≡ Some (before ++ text)) × Reports e status text)
      → WhereTold o (λ before. (text : List ℕ) × (now ≡ Some (before ++ text)) × Prints told old.kept reading (rises_of old new) sessions status text)
  printed o mid now said reports = joined o mid now (IsSaid reading e) (Reports e status) (Prints told old.kept reading (rises_of old new) sessions status)
      (λ before text first then. prints told reading old new sessions status e before text obeyed.ends first then) said reports

-- a command that serves nothing leaves the wire, and the keeper
module _ {told : Option Files} {tells : Type 0} {reading : Option Reading} {old new : World} {e : RunEnd} {sessions : List SessionEnd}
    (obeyed : Obeyed told tells reading old new e sessions) (none : serving reading ≡ None) where
  pub no_serving : (sessions ≡ []) × SameWire old new
  no_serving = let all = obeyed.no_serving none in
      (all.0, (ap (λ (w : World). w.wire) all.1, ap (λ (w : World). w.wire_faults) all.1, ap (λ (w : World). w.current) all.1))

  pub no_serving_keeper : (new.saved ≡ old.saved) × (new.kept ≡ old.kept) × (new.reads ≡ old.reads) × (new.keeper_faults ≡ old.keeper_faults)
  no_serving_keeper = let all = obeyed.no_serving none in
      (ap (λ (w : World). w.saved) all.1, ap (λ (w : World). w.kept) all.1, ap (λ (w : World). w.reads) all.1, ap (λ (w : World). w.keeper_faults) all.1)
