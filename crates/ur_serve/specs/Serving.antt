-- What holds of a server and its keeper between requests.
use Rattle.std.specs.Prelude.{◌≡◌, ◌≤◌, ℕ, ◌+◌, ◌*◌, Bool, false, List, [], Option}
use Rattle.ur_base.specs.Told.{WhereTold}
use Rattle.ur_values.specs.declared.schema.Schema.{Schema}
use Rattle.ur_keeper.specs.Tables.{Tables, KeptSchema, Keeps, AreTablesOf, MayCommit, NumbersUpTo, store_of}
use Rattle.ur_tags.specs.Routes.{AreRoutes}
use Rattle.ur_conditions.specs.declared.patterns.Patterns.{Patterns}
use Rattle.ur_cache.specs.Entries.{Cached}
use Rattle.ur_code.specs.declared.code.Code.{Code}
use Rattle.ur_pages.specs.Pages.{Remembered}
use Rattle.ur_machine.specs.Answers.{ArePatternsOf, AreEntriesOf, AreAnswersOver}
use Rattle.ur_serve.specs.Pages.{ArePagesOf}

-- what a server holds: the code, its patterns, the entries of its cache, the units of each request, and the pages that it remembers
pub record ServerState : Type 0 where
  pub code : Code
  pub patterns : Patterns
  pub cache : Cached
  pub steps : ℕ
  pub pages : List Remembered

-- Whatever the keeper is: its routes can be numbered and told apart, the patterns are those of the code, the entries are of its
-- types, and no mask is left over.
pub record IsServer (s : ServerState) : Type 0 where
  pub routes : AreRoutes s.code.handlers
  pub patterned : ArePatternsOf s.code s.patterns
  pub typed : AreEntriesOf s.code s.cache.entries
  pub no_mask : s.cache.masks ≡ []

-- tables of the schema that may be saved
pub record AreServable (schema : Schema) (t : Tables) : Type 0 where
  pub fits : AreTablesOf schema t
  pub commits : MayCommit schema t

-- The keeper keeps the code's schema and has no transaction under way; where the saved tables are told they may be served,
-- the entries are the answers over them, and the pages are worth their calls.
pub record IsReady (s : ServerState) (kept : KeptSchema) (under_way : Bool) (saved : Option Tables) : Type 0 where
  pub schema : kept ≡ Keeps s.code.schema
  pub at_rest : under_way ≡ false
  pub tables : WhereTold saved (AreServable s.code.schema)
  pub answers : WhereTold saved (λ t. AreAnswersOver s.code (store_of t) s.cache.entries)
  pub pages : ArePagesOf s.code s.steps saved s.pages

-- all but the entries and the pages is as before
pub record IsSameServer (s t : ServerState) : Type 0 where
  pub same_code : t.code ≡ s.code
  pub same_patterns : t.patterns ≡ s.patterns
  pub same_steps : t.steps ≡ s.steps
  pub same_capacity : t.cache.capacity ≡ s.cache.capacity

-- a row number and a next number rise by at most n
abbrev pub GrowBy : ℕ → Option Tables → Option Tables → Type 0
GrowBy n saved saved' = (m : ℕ) → WhereTold saved (NumbersUpTo m) → WhereTold saved' (NumbersUpTo (m + n))

-- so many requests may still be answered before a row number or a next number is above the bound
pub record IsReadyWithin (bound : ℕ) (s : ServerState) (kept : KeptSchema) (under_way : Bool) (saved : Option Tables) (n : ℕ) : Type 0 where
  pub ready : IsReady s kept under_way saved
  pub most : ℕ
  pub numbers : WhereTold saved (NumbersUpTo most)
  pub room : (k : ℕ) → k ≤ n → most + s.steps * k ≤ bound
  pub within : bound ≤ 9223300000000000000
