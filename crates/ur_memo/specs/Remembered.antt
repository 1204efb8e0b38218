-- What is remembered of an answer, and what it is worth.
use Rattle.std.specs.Prelude.{◌≡◌, ℕ, Bool, true, not, ◌||◌, List, [], ◌∷◌, map, filter, is_some}
use Rattle.std.specs.List.{list_all, list_any}
use Rattle.ur_values.specs.declared.value.Value.{Value}
use Rattle.ur_values.specs.declared.value.Call.{Call}
use Rattle.ur_values.specs.Event.{Event, Ask}
use Rattle.ur_values.specs.Store.{Store}
use Rattle.ur_terms.specs.State.{Done}
use Rattle.ur_machine_frames.specs.Plays.{held}
use Rattle.ur_tags.specs.Show.{show}
use Rattle.ur_cacheindex.specs.Matching.{KeyMask}
use Rattle.ur_cache.specs.Entries.{Entry, Cached, entry_at, is_masked, looked_up}
use Rattle.ur_code.specs.declared.code.Code.{Code}
use Rattle.ur_code.specs.Meaning.{outcome}
use Rattle.ur_pages.specs.Pages.{Asked, Remembered}
use Rattle.ur_machine.specs.Answers.{AreEntriesOf, AreAnswersOver}

-- the query of an entry
abbrev pub asked_of : Entry → Asked
asked_of e = record { site = e.site; key = e.key }

-- the event of a query that was answered with the entry's rows
abbrev pub ask_of : Entry → Event
ask_of e = Ask e.site e.key e.rows

-- Over every store whose answers these entries are, and with whatever cookies, the call comes to a page of these bytes, sets no
-- cookie and asks just these queries.
pub record ComesTo (code : Code) (steps : ℕ) (call : Call) (page : List ℕ) (es : List Entry) : Type 0 where
  pub value : Value
  pub shown : page ≡ show code.handlers value
  pub left : ℕ
  pub comes : (store : Store) → AreAnswersOver code store es → (carried : List Value)
      → outcome code call (held carried [] store [] steps) ≡ Done value (held carried [] store (map ask_of es) left)

-- What is remembered is worth this call over this store.
pub record IsRemembered (code : Code) (steps : ℕ) (call : Call) (store : Store) (r : Remembered) : Type 0 where
  pub entries : List Entry
  pub asked : map asked_of entries ≡ r.asks
  pub typed : AreEntriesOf code entries
  pub over : AreAnswersOver code store entries
  pub comes : ComesTo code steps call r.page entries
