-- The keys on which rows agree after changes of rows of which no two agree on a key.
use Rattle.std.specs.Prelude.{ℕ, Bool, ◌==◌, if◌then◌else◌, List, [], ◌∷◌, Option, None}
use Rattle.std.specs.List.{list_any}
use Rattle.ur_values.specs.declared.schema.Numbered.{Numbered}
use Rattle.ur_values.specs.Keys.{repeated_key, taken_key}
use Rattle.ur_values.specs.Store.{rows_of}
use Rattle.ur_sql.specs.declared.scalar.Scalar.{Scalar}
use Rattle.ur_sql.specs.declared.change.Action.{Action}
use Rattle.ur_sql.specs.declared.change.Action.TheVariants as action
use Rattle.ur_sql.specs.declared.change.RowChange.{RowChange}
use Rattle.ur_sql.specs.declared.change.RowChange.TheVariants as row
use Rattle.ur_sql.specs.Merged.{merged}

-- the first key on which the row that is added agrees with one that is there
abbrev pub added_key : List (List ℕ) → List Numbered → List RowChange → Option ℕ
added_key keys rows (row.Add new ∷ changes) = taken_key keys (rows_of rows) new
added_key keys rows _ = None

-- the column is set
abbrev pub is_set : List (ℕ × Scalar) → ℕ → Bool
is_set sets column = list_any (λ set. set.0 == column) sets

-- INSERT can repeat a key of the new row, UPDATE one of which a column is set, DELETE none
abbrev pub new_repeat : Action → List (List ℕ) → List Numbered → List RowChange → Option ℕ
new_repeat (action.Insert sets) keys rows changes = added_key keys rows changes
new_repeat (action.Update sets condition) keys rows changes =
    if list_any (list_any (is_set sets)) keys then repeated_key keys (merged rows changes) else None
new_repeat (action.Delete condition) keys rows changes = None
