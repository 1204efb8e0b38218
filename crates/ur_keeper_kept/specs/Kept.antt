-- A keeper over bodies: what it has, and what it tells.
use Rattle.std.specs.Prelude.{◌≡◌, ℕ, ◌<◌, ℤ, pos, ◌≤ℤ◌, Bool, true, false, List, [], length, get_or, Option, Some, None, IsSome, IsTrue, is_some, option_map, if◌then◌else◌, refl, All}
use Rattle.std.specs.Coded.{Coded, code_by, coded×, coded_ℕ, coded_bool, coded_option}
use Rattle.ur_base.specs.Told.{WhereTold}
use Rattle.ur_values.specs.declared.schema.Numbered.{Numbered}
use Rattle.ur_values.specs.declared.schema.Schema.{Schema}
use Rattle.ur_values.specs.contracts.schema.Schema as schemas
use Rattle.ur_values.specs.Numbered.{next_number, HaveRisingNumbers}
use Rattle.ur_keeper.specs.Tables.{Tables, KeptSchema, Untold, Empty, Keeps, Spells}
use Rattle.ur_keeper.specs.Memory.{no_tables}
use Rattle.ur_keeper_bodies.specs.declared.bodies.BodyChange.{BodyChange}
use Rattle.ur_keeper_bodies.specs.Bodies.{BodyMap, body_at, written, CanWrite}
use Rattle.ur_keeper_bodies.specs.declared.stored.Layout.{Layout}
use Rattle.ur_keeper_bodies.specs.Rows.{number_of}
use Rattle.ur_keeper_bodies.specs.Columns.{Column}
use Rattle.ur_keeper_bodies.specs.Stored.{stored_text, parted}
use Rattle.ur_keeper_kept.specs.Laid.{table_tab, rows_by, table_in, tables_in, tables_by, text_at, IsBodyBy, IsLaid, HasShortNames}
use Rattle.ur_keeper_kept.specs.declared.pending.Pending.{Pending}
use Rattle.ur_keeper_kept.specs.contracts.pending.Pending as pendings

-- the bodies; the kept schema, once an `attach` was Ready; whether a transaction is under way, and its changes; the
-- scans; and how often a fault of the store was found
pub record KeptState (B : Type 0) : Type 0 where
  pub bodies : B
  pub schema : Option Schema
  pub under_way : Bool
  pub pending : Pending
  pub reads : ℕ
  pub found : ℕ

abbrev pub kept_code : {B : Type 0} → Coded B → Coded (KeptState B)
kept_code {B} b =
    code_by (B × (Option Schema × (Bool × (Pending × (ℕ × ℕ))))) (coded× b (coded× (coded_option (schemas.the_row).coded) (coded× coded_bool (coded× (pendings.the_row).coded (coded× coded_ℕ coded_ℕ)))))
    (λ k. (k.bodies, (k.schema, (k.under_way, (k.pending, (k.reads, k.found))))))
    (λ p. record { bodies = p.0; schema = p.1.0; under_way = p.1.1.0; pending = p.1.1.1.0; reads = p.1.1.1.1.0; found = p.1.1.1.1.1 }) (λ _. refl)

-- no changes, and no table or sequence was seen
abbrev pub no_changes : Pending
no_changes = record { changes = []; seen = None; drawn = [] }

-- ---- what it tells; `first` says whether the bodies are told from the start on

-- a store with this text, which tells the layout of its rows, or without one
abbrev pub found_in : BodyMap → Option (List ℕ) → KeptSchema
found_in m None = Empty
found_in m (Some stored) = Spells (parted stored).1 (λ schema. tables_by (parted stored).0 schema m)

abbrev pub kept_in : Bool → Option BodyMap → Option Schema → KeptSchema
kept_in first told (Some schema) = Keeps schema
kept_in true (Some m) None = found_in m (text_at m)
kept_in true None None = Untold
kept_in false told None = Untold

abbrev pub tables_found : Option (List ℕ) → Option Tables
tables_found None = Some no_tables
tables_found (Some text) = None

abbrev pub saved_in : Bool → Option BodyMap → Option Schema → Option Tables
saved_in first told (Some schema) = option_map (tables_in schema) told
saved_in true (Some m) None = tables_found (text_at m)
saved_in true None None = None
saved_in false told None = None

abbrev pub with_changes : List BodyChange → Option BodyMap → Option BodyMap
with_changes changes = option_map (λ m. written m changes)

abbrev pub current_in : Bool → Option BodyMap → Option Schema → Bool → List BodyChange → Option Tables
current_in first told schema under_way changes = saved_in first (if under_way then with_changes changes told else told) schema

-- the same of a state, whose bodies tell in this way
abbrev pub kept_of : {B : Type 0} → (B → Bool) → (B → Option BodyMap) → KeptState B → KeptSchema
kept_of first told k = kept_in (first k.bodies) (told k.bodies) k.schema

abbrev pub saved_of : {B : Type 0} → (B → Bool) → (B → Option BodyMap) → KeptState B → Option Tables
saved_of first told k = saved_in (first k.bodies) (told k.bodies) k.schema

abbrev pub current_of : {B : Type 0} → (B → Bool) → (B → Option BodyMap) → KeptState B → Option Tables
current_of first told k = current_in (first k.bodies) (told k.bodies) k.schema k.under_way k.pending.changes

-- ---- what holds of it

-- the number of each body of a table is below 2^63
abbrev pub AreLow : Schema → BodyMap → Type 0
AreLow schema m = (i n : ℕ) → i < length schema.tables → IsTrue (is_some (body_at m (table_tab i) (pos n))) → n < 9223372036854775808

-- the kept text is the schema's in the second layout, and the tables read, with low numbers, before and after the changes
pub record IsGood (schema : Schema) (m : BodyMap) (changes : List BodyChange) : Type 0 where
  pub short : HasShortNames schema
  pub text : text_at m ≡ Some (stored_text schema)
  pub saved : IsLaid schema m
  pub fits : CanWrite m changes
  pub text_stays : text_at (written m changes) ≡ Some (stored_text schema)
  pub current : IsLaid schema (written m changes)
  pub low : AreLow schema m
  pub stays_low : AreLow schema (written m changes)

-- the table that was seen last has this next number
abbrev pub IsSeen : Schema → BodyMap → Option (ℕ × ℤ) → Type 0
IsSeen schema m None = Unit {0}
IsSeen schema m (Some seen) = seen.1 ≡ pos (next_number (table_in schema m seen.0))

-- a body of this next number
abbrev pub IsNumber : Option (List ℕ) → ℤ → Type 0
IsNumber body n = (b : List ℕ) × (body ≡ Some b) × (number_of b ≡ Some n)

-- what stands for a sequence is its next number, where it is 1 or more
abbrev pub AreDrawn : BodyMap → List ℤ → Type 0
AreDrawn m drawn = (q : ℕ) → pos 1 ≤ℤ get_or drawn q (pos 0) → IsNumber (body_at m (pos 1) (pos q)) (get_or drawn q (pos 0))

pub record IsPending (schema : Schema) (m : BodyMap) (pending : Pending) : Type 0 where
  pub good : IsGood schema m pending.changes
  pub seen : IsSeen schema (written m pending.changes) pending.seen
  pub drawn : AreDrawn (written m pending.changes) pending.drawn

abbrev pub IsGoodFor : Option Schema → Option BodyMap → Pending → Type 0
IsGoodFor None told pending = pending ≡ no_changes
IsGoodFor (Some schema) told pending = WhereTold told (λ m. IsPending schema m pending)

pub record IsWell (told : Option BodyMap) (opened : Bool) (schema : Option Schema) (under_way : Bool) (pending : Pending) : Type 0 where
  pub idle : under_way ≡ false → pending ≡ no_changes
  pub opens : IsSome schema → opened ≡ true
  pub good : IsGoodFor schema told pending

-- ---- the work on it

-- the current tables were changed in this way
pub record IsChanged (schema : Schema) (f : Tables → Tables) (m : BodyMap) (old new : Pending) : Type 0 where
  pub pending : IsPending schema m new
  pub tables : tables_in schema (written m new.changes) ≡ f (tables_in schema (written m old.changes))

-- the rows that these bodies are read as in a layout, and the next number
pub record AreRead (layout : Layout) (columns : List Column) (entries : List (ℤ × List ℕ)) (rows : List Numbered) (next : ℤ) : Type 0 where
  pub read : rows ≡ rows_by layout columns entries
  pub laid : All (IsBodyBy layout columns) entries
  pub rising : HaveRisingNumbers rows
  pub last : next ≡ pos (next_number rows)
