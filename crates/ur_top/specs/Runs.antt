-- The words in which the clauses of a run are written. A device stands in them by what its trait tells of it, before the run and after it.
use Rattle.std.specs.Prelude.{◌≡◌, ◌≢◌, ◌⊎◌, ℕ, ◌+◌, Bool, List, [], ◌∷◌, ◌++◌, length, Option, Some, String, Contains}
use Rattle.ur_base.specs.Counts.{Rose}
use Rattle.ur_base.specs.Told.{WhereTold, Tells}
use Rattle.ur_io.specs.Calls.{count_after}
use Rattle.ur_io.specs.Files.{Files}
use Rattle.ur_io.specs.Traffic.{Traffic}
use Rattle.ur_io.specs.declared.session.SessionEnd.{SessionEnd}
use Rattle.ur_values.specs.declared.schema.Schema.{Schema}
use Rattle.ur_keeper.specs.Keeper.{TellsStore, CanTake}
use Rattle.ur_keeper.specs.Tables.{Tables, KeptSchema, store_of}
use Rattle.ur_tree.specs.declared.typed.Typed.{Typed}
use Rattle.ur_words.specs.declared.reading.Reading.{Reading}
use Rattle.ur_words.specs.declared.reading.Reading.TheVariants.{Load, Replay}
use Rattle.ur_headline.specs.Counting.{wire_faults, next_failed, WantsMemory, IsWhole}
use Rattle.ur_headline.specs.Readings.{Serving}
use Rattle.ur_headline.specs.Serves.{Serves, IsAttached}
use Rattle.ur_top.specs.declared.outcome.Outcome.{Outcome}
use Rattle.ur_top.specs.Prints.{Prints}
use Rattle.ur_top.specs.Sources.{asked, ForSource, ForCompiled, Compiles}

-- ---- what is served

-- Where there is a session and the keeper told what its store has, the sessions, the bytes given and the tables afterwards are the
-- application's.
abbrev pub IsServing : {K W : Type 0} → Typed → Serving → (K → KeptSchema) → (K → Option Tables) → (K → ℕ) → K → K
    → (W → Option Traffic) → W → W → Outcome → Type 0
IsServing app s kept saved reads k k' told w w' ended = ended.sessions ≢ [] → TellsStore (kept k) (saved k)
    → WhereTold (told w) (λ t. Tells (saved k') (λ after. Serves app s.settings (kept k) (saved k) t ended.sessions (told w') (store_of after) (reads k) (reads k')))

-- the statuses other than 0
abbrev pub failures : List ℕ
failures = 1 ∷ 2 ∷ 3 ∷ 4 ∷ 5 ∷ 6 ∷ 7 ∷ 8 ∷ []

-- no connection is served: the keeper has another schema, or the run ended before it was known
abbrev pub ServesNone : Outcome → Type 0
ServesNone ended = Contains (3 ∷ 4 ∷ 5 ∷ 7 ∷ 8 ∷ []) ended.status × (ended.sessions ≡ [])

-- the words are `replay` of what is served
abbrev pub IsReplay : Option Reading → Serving → Type 0
IsReplay reading s = reading ≡ Some (Replay s.project s.settings)

-- ---- what a device is after the run

-- no call failed
abbrev pub Stays : {A : Type 0} → (A → ℕ) → A → A → Type 0
Stays faults a a' = ¬ (Rose (faults a) (faults a'))

-- where nothing was served, the saved tables are as before or as `attach` left them
abbrev pub IsLeft : {K : Type 0} → Schema → (K → KeptSchema) → (K → Option Tables) → K → K → Type 0
IsLeft schema kept saved k k' = IsAttached schema (kept k) (saved k) (saved k')

-- the wire was not called
abbrev pub IsUncalled : {W : Type 0} → (W → Option Traffic) → (W → ℕ) → (W → Bool) → W → W → Type 0
IsUncalled told faults current w w' = (told w' ≡ told w) × (faults w' ≡ faults w) × (current w' ≡ current w)

-- the keeper was not called
abbrev pub IsUnasked : {K : Type 0} → (K → Option Tables) → (K → KeptSchema) → (K → ℕ) → (K → ℕ) → K → K → Type 0
IsUnasked saved kept reads faults k k' = (saved k' ≡ saved k) × (kept k' ≡ kept k) × (reads k' ≡ reads k) × (faults k' ≡ faults k)

-- The wire's count rose by the sessions that it cut off, and by one more where `next` failed, which the status tells; at 5, where the
-- sink failed, it may have failed or not.
abbrev pub IsWireCount : Option Reading → List SessionEnd → ℕ → ℕ → ℕ → Type 0
IsWireCount reading sessions status faults faults' = (faults' ≡ count_after (wire_faults sessions + next_failed reading sessions status) faults)
    ⊎ ((status ≡ 5) × (faults' ≡ count_after (wire_faults sessions + 1) faults))

-- ---- what is printed

-- the sink was given a text of which P holds
abbrev pub Says : {O : Type 0} → (O → Option (List ℕ)) → O → O → (List ℕ → Type 0) → Type 0
Says told o o' P = WhereTold (told o) (λ before. (text : List ℕ) × (told o' ≡ Some (before ++ text)) × P text)

-- the same of a text that begins with this line
abbrev pub Begins : {O : Type 0} → (O → Option (List ℕ)) → O → O → List ℕ → Type 0
Begins told o o' line = WhereTold (told o) (λ before. (rest : List ℕ) × (told o' ≡ Some (before ++ line ++ rest)))

-- the report that is due, with its cause, or at status 5 a front of it
abbrev pub IsDue : {S W K Z : Type 0} → (S → Option Files) → (S → ℕ) → S → S → (W → ℕ) → W → W → (K → KeptSchema) → (K → ℕ) → K → K → List (String Z) → Outcome → List ℕ → Type 0
IsDue told shelf s s' wire w w' kept keeper k k' words ended text = Prints (told s) (kept k) (asked words)
    (record { shelf = Rose (shelf s) (shelf s'); wire = Rose (wire w) (wire w'); keeper = Rose (keeper k) (keeper k') }) ended.sessions ended.status text

-- ---- completeness

-- all is done, or memory is wanting
abbrev pub EndsWell : ℕ → Type 0
EndsWell status = Contains (0 ∷ 8 ∷ []) status

-- Where no call of a device failed, an application that the compiler accepts, over a store that can take its schema, is served whole, or
-- memory is wanting.
abbrev pub Completes : {S W K O Z : Type 0} → (S → Option Files) → (S → ℕ) → S → S → (W → Option Traffic) → (W → ℕ) → W → W → (K → KeptSchema) → (K → ℕ) → K → K
    → (O → ℕ) → O → O → List (String Z) → Outcome → Type 0
Completes files shelf s s' told wire w w' kept keeper k k' sink o o' words ended = ForCompiled (files s) (asked words) (λ to app. CanTake app.schema (kept k)
    → Stays shelf s s' → Stays wire w w' → Stays keeper k k' → Stays sink o o' → EndsWell ended.status
    × WhereTold (told w) (λ t. WantsMemory ended.status ended.sessions ⊎ IsWhole to.most (length t.coming) ended.status ended.sessions))

-- P where the words are `load` and the notes compile
abbrev pub ForLoad : Option Files → Option Reading → Type 0 → Type 0
ForLoad told reading P = (seed n : ℕ) → reading ≡ Some (Load seed n) → ForSource told reading (λ files word. (app : Typed) → Compiles files word app → P)
