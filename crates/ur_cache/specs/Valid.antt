-- Which entries may be answered from.
use Rattle.std.specs.Prelude.{◌≡◌, ℕ, false, List, All}
use Rattle.ur_values.specs.declared.value.Value.{Value}
use Rattle.ur_cache.specs.Entries.{Entry, Cached, is_masked}

-- each entry's rows are the answer at its site and key
abbrev pub AreValid : (ℕ → List Value → List Value) → List Entry → Type 0
AreValid answer_at entries = All (λ e. e.rows ≡ answer_at e.site e.key) entries

-- the same of the entries that no mask matches
abbrev pub AreValidUnmasked : (ℕ → List Value → List Value) → Cached → Type 0
AreValidUnmasked answer_at c =
    All (λ e. is_masked c.masks e.site e.key ≡ false → e.rows ≡ answer_at e.site e.key) c.entries
