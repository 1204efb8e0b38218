-- Changes of rows, one after the other, as calls of a keeper.
use Rattle.std.specs.Prelude.{◌≡◌, ℕ, ◌≤◌, ◌-◌, Bool, true, false, IsTrue, List, [], ◌∷◌, Option, Some, None, Result, Ok, Err, IfOk, OnOk}
use Rattle.ur_base.specs.Told.{WhereTold}
use Rattle.ur_values.specs.declared.value.Value.{Value}
use Rattle.ur_values.specs.declared.schema.Schema.{Schema}
use Rattle.ur_values.specs.declared.schema.Numbered.{Numbered}
use Rattle.ur_values.specs.Numbered.{next_number, has_number}
use Rattle.ur_values.specs.Sql.{After}
use Rattle.ur_values.specs.Store.{Store}
use Rattle.ur_values.specs.Values.{unit_value}
use Rattle.ur_keeper.specs.Tables.{Tables, KeptSchema, table_at, with_table, store_of}
use Rattle.ur_sql.specs.declared.change.Change.{Change}
use Rattle.ur_sql.specs.declared.change.RowChange.{RowChange}
use Rattle.ur_sql.specs.declared.change.RowChange.TheVariants as row
use Rattle.ur_sql.specs.Change.{change}
use Rattle.ur_sql.specs.Plan.{row_changed}
use Rattle.ur_sql.specs.Sql.{table_name}
use Rattle.ur_terms.specs.State.{State, Error}
use Rattle.ur_terms.specs.Ops.{changed}
use Rattle.ur_code.specs.Meaning.{are_storable}
use Rattle.ur_machine.specs.declared.stop.TurnStop.{TurnStop}
use Rattle.ur_machine.specs.declared.stop.TurnStop.TheVariants as stop
use Rattle.ur_machine.specs.Ready.{AreReady, RaisedBy}
use Rattle.ur_machine.specs.Stops.{Leaves, Stays}

-- the tables after the change of one row
abbrev pub changed_in : ℕ → RowChange → Tables → Tables
changed_in table c = with_table table (λ rows. row_changed rows c)

-- the tables after all of them, in order
abbrev pub all_changed : ℕ → List RowChange → Tables → Tables
all_changed table [] t = t
all_changed table (c ∷ cs) t = all_changed table cs (changed_in table c t)

-- there is room for a row that is added, and the row that is put or dropped is there
abbrev pub MayChange : List Numbered → RowChange → Type 0
MayChange rows (row.Add new) = next_number rows ≤ 9223372036854775807
MayChange rows (row.Put n new) = IsTrue (has_number rows n)
MayChange rows (row.Drop n) = IsTrue (has_number rows n)

-- each of them may be made after those before it
abbrev pub MayChangeAll : ℕ → List RowChange → Tables → Type 0
MayChangeAll table [] t = Unit {0}
MayChangeAll table (c ∷ cs) t = MayChange (table_at t table) c × MayChangeAll table cs (changed_in table c t)

-- What a change of these tables comes to: what it makes of them, an error, or more than may be stored.
abbrev pub Makes : Schema → Change → List Value → Store → Option Tables → Result Value TurnStop → Type 0
Makes schema u args before after (Ok x) =
    (t : Tables) × (after ≡ Some t) × (x ≡ unit_value) × (change schema u args before ≡ After (store_of t)) × (are_storable (store_of t) ≡ true)
Makes schema u args before after (Err (stop.Failed body)) =
    (s : State) → changed (table_name schema (Some u)) (change schema u args before) s ≡ Error body s.events
Makes schema u args before after (Err stop.Spent) = (store : Store) × (change schema u args before ≡ After store) × (are_storable store ≡ false)
Makes schema u args before after (Err stop.Keeper) = Unit {0}
Makes schema u args before after (Err stop.Undone) = Unit {0}
Makes schema u args before after (Err stop.Memory) = Unit {0}

-- A change of a table over a keeper, before its event and its unit: where the tables are told it makes of them what the change
-- comes to, and leaves tables that may be read and changed by one unit less.
pub record Made (schema : Schema) (u : Change) (args : List Value) (saved saved' current current' : Option Tables) (kept kept' : KeptSchema) (under_way' : Bool) (result : Result Value TurnStop) : Type 0 where
  pub makes : WhereTold current (λ t. Makes schema u args (store_of t) current' result)
  pub ready : (w : ℕ) → 1 ≤ w → w ≤ 9223372036854775806 → WhereTold current (AreReady schema w) → OnOk result (WhereTold current' (AreReady schema (w - 1)))
  pub raised : OnOk result (RaisedBy 1 current current')
  pub value : IfOk result (λ x. x ≡ unit_value)
  pub leaves : Leaves result saved saved' current' kept kept' under_way'
  pub stays : Stays result current current'
  pub untold : OnOk result (current ≡ None → current' ≡ None)
