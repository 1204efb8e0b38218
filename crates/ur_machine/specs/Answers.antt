-- What a cache of answers is to a program: which entries it may hold, when they are its answers, and what a run makes of it.
use Rattle.std.specs.Prelude.{◌≡◌, ℕ, zero, suc, false, List, [], All, length, Option, Some, None, slice_get, slice_index_or}
use Rattle.ur_base.specs.Counts.{next_count}
use Rattle.ur_base.specs.Told.{WhereTold, Tells}
use Rattle.ur_values.specs.declared.value.Value.{Value}
use Rattle.ur_values.specs.Event.{Event, Ask, Write}
use Rattle.ur_values.specs.Store.{Store, FitKinds}
use Rattle.ur_keeper.specs.Tables.{Tables, store_of}
use Rattle.ur_sql.specs.declared.query.Query.{Query}
use Rattle.ur_sql.specs.Answer.{answer, site_answer}
use Rattle.ur_cacheindex.specs.Matching.{KeyMask}
use Rattle.ur_conditions.specs.declared.patterns.Patterns.{Patterns}
use Rattle.ur_conditions.specs.Masks.{update_masks}
use Rattle.ur_conditions.specs.Law.{IsSoundInvalidation, ReadArguments}
use Rattle.ur_conditions.specs.Patterns.{AreAllPatterns}
use Rattle.ur_cache.specs.Entries.{Entry, Cached, is_masked}
use Rattle.ur_cache.specs.Cached.{Sites, Tally, after_events}
use Rattle.ur_cache.specs.Valid.{AreValid, AreValidUnmasked}
use Rattle.ur_code.specs.declared.code.Code.{Code}
use Rattle.ur_code.specs.RowType.{query_type}
use Rattle.ur_code.specs.Sound.{IsOf}

-- ---- patterns and sites

-- the patterns of the code's queries and changes, with their laws
pub record ArePatternsOf (code : Code) (patterns : Patterns) : Type 0 where
  pub exact : AreAllPatterns code.queries code.changes patterns
  pub sound : IsSoundInvalidation code.schema code.queries code.changes patterns
  pub reads : ReadArguments code.changes patterns

-- the items of a query, of which each is scanned
abbrev pub items_in : Option Query → ℕ
items_in None = 0
items_in (Some q) = length q.from

-- what the list of entries needs of the code and its patterns
abbrev pub sites_of : Code → Patterns → Sites
sites_of code patterns = record {
  masks = λ update args. update_masks args (slice_index_or patterns.updates update []);
  items = λ site. items_in (slice_get code.queries site);
}

-- ---- entries

-- an entry has a site of the code, a key of the site's kinds, and rows of its row type
pub record IsEntryOf (code : Code) (e : Entry) : Type 0 where
  pub query : Query
  pub is_site : slice_get code.queries e.site ≡ Some query
  pub key : FitKinds e.key query.params
  pub rows : All (λ row. IsOf code row (query_type query).1) e.rows

abbrev pub AreEntriesOf : Code → List Entry → Type 0
AreEntriesOf code = All (IsEntryOf code)

-- the entries are the answers over this store
abbrev pub AreAnswersOver : Code → Store → List Entry → Type 0
AreAnswersOver code store = AreValid (λ site key. site_answer code.queries site key store)

-- so are those that no mask matches
abbrev pub AreUnmaskedAnswersOver : Code → Store → Cached → Type 0
AreUnmaskedAnswersOver code store = AreValidUnmasked (λ site key. site_answer code.queries site key store)

-- at a key that no mask matches the answer over the current store is the one over the saved store
abbrev pub AgreeUnmasked : Code → Store → Store → List KeyMask → Type 0
AgreeUnmasked code saved current masks = (site : ℕ) (q : Query) (key : List Value) → slice_get code.queries site ≡ Some q → FitKinds key q.params
    → is_masked masks site key ≡ false → answer q key current ≡ answer q key saved

-- ---- what holds of a cache

-- Between transactions and within them: typed entries, which are the answers over the saved tables, where these are told.
pub record AreSavedAnswers (code : Code) (saved : Option Tables) (c : Cached) : Type 0 where
  pub entries : AreEntriesOf code c.entries
  pub over_saved : WhereTold saved (λ s. AreAnswersOver code (store_of s) c.entries)

-- Within a transaction besides: entries that no mask matches are the answers over the current tables, and so will be those
-- that are read and kept from now on over the saved ones.
pub record AreCurrentAnswers (code : Code) (saved current : Option Tables) (c : Cached) : Type 0 where
  pub over_current : WhereTold current (λ t. AreUnmaskedAnswersOver code (store_of t) c)
  pub agree : WhereTold saved (λ s. Tells current (λ t. AgreeUnmasked code (store_of s) (store_of t) c.masks))

-- ---- what events make of it

-- a count after so many steps
abbrev pub scanned : ℕ → ℕ → ℕ
scanned zero count = count
scanned (suc n) count = next_count (scanned n count)

-- At these events the list of entries went through its steps, and the count of scans rose by theirs.
abbrev pub Follows : Sites → Cached → Cached → ℕ → ℕ → List Event → Type 0
Follows sites old new reads reads' events = let end = after_events sites old events in (new ≡ end.list) × (reads' ≡ scanned end.scans reads)
