-- What a store has at fault where a fault is found in it.
use Rattle.std.specs.Prelude.{◌≡◌, ◌≢◌, ℕ, ◌<◌, ℤ, pos, ◌≤ℤ◌, ◌<ℤ◌, true, List, [], length, All, Option, Some, None, Result, Ok, Err}
use Rattle.ur_base.specs.Told.{WhereTold}
use Rattle.ur_values.specs.Extends.{extends}
use Rattle.ur_values.specs.declared.schema.Numbered.{Numbered}
use Rattle.ur_values.specs.declared.schema.Schema.{Schema}
use Rattle.ur_values.specs.SchemaText.{schema_text}
use Rattle.ur_values.specs.Named.{IsNamed}
use Rattle.ur_keeper_bodies.specs.declared.stored.Layout.{Layout}
use Rattle.ur_keeper_bodies.specs.Columns.{Column}
use Rattle.ur_keeper_bodies.specs.Stored.{parted}
use Rattle.ur_keeper_bodies.specs.Bodies.{BodyMap, body_at, bodies_of}
use Rattle.ur_keeper_kept.specs.Laid.{text_at, table_tab, IsBodyBy}
use Rattle.ur_keeper_kept.specs.Kept.{IsNumber}
use Rattle.ur_keeper_kept.specs.Attach.{IsKeptText, IsSoundStore}

-- the count of the faults that were found is the same after Ok, and differs after an Err only where what is told has this fault
abbrev pub Finds : {A T E : Type 0} → Result T E → ℕ → ℕ → Option A → (A → Type 0) → Type 0
Finds (Ok x) old new told P = new ≡ old
Finds (Err e) old new told P = new ≢ old → WhereTold told P

-- ---- what is read

-- each body is one of a row of these columns in this layout, and no number is the greatest
pub record AreReadable (layout : Layout) (columns : List Column) (entries : List (ℤ × List ℕ)) : Type 0 where
  pub laid : All (IsBodyBy layout columns) entries
  pub below : All (λ e. e.0 <ℤ pos 9223372036854775807) entries

-- a body of a next number that may be drawn
abbrev pub IsDrawable : Option (List ℕ) → Type 0
IsDrawable body = (n : ℤ) × IsNumber body n × (pos 1 ≤ℤ n) × (n <ℤ pos 9223372036854775807)

-- no row has the greatest number
abbrev pub HasLowNumbers : List Numbered → Type 0
HasLowNumbers = All (λ r. r.number < 9223372036854775807)

-- ---- a store at an `attach`

-- no body at a table or a sequence of the schema
pub record IsBare (schema : Schema) (m : BodyMap) : Type 0 where
  pub tables : (i : ℕ) → i < length schema.tables → bodies_of m (table_tab i) ≡ []
  pub sequences : (i : ℕ) → i < length schema.sequences → body_at m (pos 1) (pos i) ≡ None

-- Its text, without the line of its layout, is neither the schema's nor that of a schema whose names are words; or it is that of a schema
-- that the given one extends, and the store is not sound; or there is no text, but a body at a table or a sequence of the schema.
pub data IsFaultyStore (schema : Schema) (m : BodyMap) : Type 0 where
  NoSchema : (stored : List ℕ) → text_at m ≡ Some stored → (parted stored).1 ≢ schema_text schema → ((s : Schema) → IsNamed s → (parted stored).1 ≢ schema_text s) → IsFaultyStore schema m
  Unsound : (layout : Layout) (kept : Schema) → IsKeptText layout kept m → extends schema kept ≡ true → (IsSoundStore layout kept m → ⊥) → IsFaultyStore schema m
  Filled : text_at m ≡ None → (IsBare schema m → ⊥) → IsFaultyStore schema m
