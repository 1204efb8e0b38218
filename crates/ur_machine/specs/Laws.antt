-- The laws of a cache of answers.
use Rattle.std.specs.Prelude.{◌≡◌, ℕ, List, [], ◌∷◌, ◌++◌, map, Option, Some, None, option_map, slice_get, slice_index_or}
use Rattle.std.specs.List.{AllByRecursion}
use Rattle.ur_base.specs.Told.{WhereTold}
use Rattle.ur_values.specs.declared.value.Value.{Value}
use Rattle.ur_values.specs.Event.{Event, Ask, Write}
use Rattle.ur_values.specs.Store.{FitsSchema, FitKinds}
use Rattle.ur_keeper.specs.Tables.{Tables, AreTablesOf, drawn, store_of}
use Rattle.ur_sql.specs.declared.query.Query.{Query}
use Rattle.ur_sql.specs.declared.change.Change.{Change}
use Rattle.ur_sql.specs.Answer.{site_answer}
use Rattle.ur_sql.specs.Change.{After, change}
use Rattle.ur_conditions.specs.declared.patterns.Patterns.{Patterns}
use Rattle.ur_conditions.specs.Masks.{update_masks}
use Rattle.ur_cache.specs.declared.cache.Settle.TheVariants.{Commit, Rollback}
use Rattle.ur_cache.specs.Entries.{Entry, Cached, hit, looked_up, kept, masked, settled}
use Rattle.ur_code.specs.declared.code.Code.{Code}
use Rattle.ur_code.specs.RowType.{query_type}
use Rattle.ur_code.specs.Sound.{IsOf}
use Rattle.ur_machine.specs.Answers.{ArePatternsOf, AreSavedAnswers, AreCurrentAnswers, Follows, sites_of}

-- both halves of what holds of a cache within a transaction
abbrev pub AreAnswers : Code → Option Tables → Option Tables → Cached → Type 0
AreAnswers code saved current c = AreSavedAnswers code saved c × AreCurrentAnswers code saved current c

-- a transaction begins on the saved tables
abbrev pub IsKeptAtBegin : Code → Type 0
IsKeptAtBegin code = (saved : Option Tables) (c : Cached) → AreSavedAnswers code saved c → AreCurrentAnswers code saved saved c

-- what is found is the answer over the current tables, and it may go to the front
abbrev pub IsKeptAtHit : Code → Type 0
IsKeptAtHit code = (saved current : Option Tables) (c : Cached) (site : ℕ) (q : Query) (key : List Value) (e : Entry) → slice_get code.queries site ≡ Some q → FitKinds key q.params
    → AreAnswers code saved current c → hit c site key ≡ Some e
    → WhereTold current (λ t. e.rows ≡ site_answer code.queries site key (store_of t)) × AreAnswers code saved current (looked_up c site key)

-- the answer over the current tables may be kept where the rule keeps it
abbrev pub IsKeptAtRead : Code → Type 0
IsKeptAtRead code = (saved current : Option Tables) (c : Cached) (site : ℕ) (q : Query) (key rows : List Value) → slice_get code.queries site ≡ Some q → FitKinds key q.params
    → AreAnswers code saved current c → WhereTold current (λ t. rows ≡ site_answer code.queries site key (store_of t))
    → AllByRecursion (λ row. IsOf code row (query_type q).1) rows → AreAnswers code saved current (kept c (record { site = site; key = key; rows = rows }))

-- a change after its masks
abbrev pub IsKeptAtChange : Code → Type 0
IsKeptAtChange code = (patterns : Patterns) → ArePatternsOf code patterns
    → (saved : Option Tables) (t t' : Tables) (c : Cached) (update : ℕ) (u : Change) (args : List Value) → slice_get code.changes update ≡ Some u → FitKinds args u.params
    → AreTablesOf code.schema t → AreAnswers code saved (Some t) c → change code.schema u args (store_of t) ≡ After (store_of t')
    → AreAnswers code saved (Some t') (masked c (update_masks args (slice_index_or patterns.updates update [])))

-- masks without a change
abbrev pub IsKeptAtMasks : Code → Type 0
IsKeptAtMasks code = (patterns : Patterns) (saved current : Option Tables) (c : Cached) (update : ℕ) (args : List Value) → AreAnswers code saved current c
    → AreAnswers code saved current (masked c (update_masks args (slice_index_or patterns.updates update [])))

-- a draw of a sequence's number
abbrev pub IsKeptAtDraw : Code → Type 0
IsKeptAtDraw code = (saved current : Option Tables) (c : Cached) (q : ℕ) → AreAnswers code saved current c → AreAnswers code saved (option_map (drawn q) current) c

-- a commit saves the current tables and drops the entries that a mask matches; a rollback keeps both
abbrev pub IsKeptAtCommit : Code → Type 0
IsKeptAtCommit code = (saved current : Option Tables) (c : Cached) → AreAnswers code saved current c → AreSavedAnswers code current (settled c Commit)

abbrev pub IsKeptAtRollback : Code → Type 0
IsKeptAtRollback code = (saved : Option Tables) (c : Cached) → AreSavedAnswers code saved c → AreSavedAnswers code saved (settled c Rollback)

-- steps one after the other are the steps of the events together, the counts of scans added
abbrev pub StepsJoin : Code → Type 0
StepsJoin code = (patterns : Patterns) (c c₁ c₂ : Cached) (reads reads₁ reads₂ : ℕ) (es fs : List Event) → Follows (sites_of code patterns) c c₁ reads reads₁ es
    → Follows (sites_of code patterns) c₁ c₂ reads₁ reads₂ fs → Follows (sites_of code patterns) c c₂ reads reads₂ (es ++ fs)
