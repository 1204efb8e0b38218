-- The laws of what is remembered.
use Rattle.std.specs.Prelude.{◌≡◌, ℕ, true, false, List, [], map, Option, Some, slice_get}
use Rattle.ur_values.specs.declared.value.Value.{Value}
use Rattle.ur_values.specs.declared.value.Call.{Call}
use Rattle.ur_values.specs.Store.{Store}
use Rattle.ur_terms.specs.State.{State, Done}
use Rattle.ur_machine_frames.specs.Plays.{held}
use Rattle.ur_keeper.specs.Tables.{Tables}
use Rattle.ur_tags.specs.Show.{show}
use Rattle.ur_cacheindex.specs.Matching.{KeyMask}
use Rattle.ur_conditions.specs.declared.patterns.Patterns.{Patterns}
use Rattle.ur_cache.specs.declared.cache.Settle.TheVariants.{Rollback}
use Rattle.ur_cache.specs.Entries.{Entry, Cached}
use Rattle.ur_cache.specs.Cached.{Sites, after_events, cached}
use Rattle.ur_code.specs.declared.code.Code.{Code}
use Rattle.ur_code.specs.Meaning.{outcome}
use Rattle.ur_machine.specs.Answers.{AreEntriesOf, AgreeUnmasked, AreSavedAnswers}
use Rattle.ur_pure.specs.Acts.{OnlyAsks}
use Rattle.ur_pages.specs.Pages.{Asked, Remembered, are_there, brought, some_masked}
use Rattle.ur_memo.specs.Remembered.{asked_of, ask_of, IsRemembered}

-- What the call of a function that only asks came to may be remembered; it has set no cookie, and the store is as before.
abbrev pub MayBeRemembered : Code → Type 0
MayBeRemembered code = (steps : ℕ) (path : List ℕ) (call : Call) (f : ℕ) (carried : List Value) (store : Store) (x : Value) (t : State) (es : List Entry)
    → slice_get code.targets call.route ≡ Some f → OnlyAsks code.functions f
    → outcome code call (held carried [] store [] steps) ≡ Done x t → t.events ≡ map ask_of es → AreEntriesOf code es
    → (t.sent ≡ []) × (t.store ≡ store)
    × IsRemembered code steps call store (record { path = path; asks = map asked_of es; page = show code.handlers x })

-- A call over the store comes to what is remembered of it.
abbrev pub IsAnswer : Code → Type 0
IsAnswer code = (steps : ℕ) (call : Call) (store : Store) (r : Remembered) (h : IsRemembered code steps call store r) (carried : List Value)
    → outcome code call (held carried [] store [] steps) ≡ Done h.comes.value (held carried [] store (map ask_of h.entries) h.comes.left)

-- It is worth the same over a store at which all queries that no mask matches are answered as before, where none matches its own.
abbrev pub StaysRemembered : Code → Type 0
StaysRemembered code = (steps : ℕ) (call : Call) (saved current : Store) (masks : List KeyMask) (r : Remembered)
    → AgreeUnmasked code saved current masks → some_masked masks r.asks ≡ false → IsRemembered code steps call saved r → IsRemembered code steps call current r

-- Where each query has an entry and nothing is masked, the events bring these entries to the front in their order and make no scan.
abbrev pub HitsBring : Code → Type 0
HitsBring code = (sites : Sites) (c : Cached) (es : List Entry) → c.masks ≡ [] → AreEntriesOf code es → are_there c.entries (map asked_of es) ≡ true
    → after_events sites c (map ask_of es) ≡ record { list = brought (map asked_of es) c; scans = 0 }

-- so a whole request that saves nothing does
abbrev pub RequestBrings : Code → Type 0
RequestBrings code = (sites : Sites) (c : Cached) (es : List Entry) → c.masks ≡ [] → AreEntriesOf code es → are_there c.entries (map asked_of es) ≡ true
    → cached sites c.capacity c.entries (map ask_of es) Rollback ≡ ((brought (map asked_of es) c).entries, 0)

-- What holds of the entries and of the masks is kept when entries go to the front.
abbrev pub BringingKeeps : Code → Type 0
BringingKeeps code = (asks : List Asked) (saved : Option Tables) (c : Cached) → AreSavedAnswers code saved c
    → AreSavedAnswers code saved (brought asks c) × ((brought asks c).masks ≡ c.masks) × ((brought asks c).capacity ≡ c.capacity)
