-- What an `attach` finds and makes.
use Rattle.std.specs.Prelude.{◌≡◌, ℕ, zero, suc, ◌+◌, ◌≤◌, ℤ, pos, ◌≤ℤ◌, Bool, true, false, List, [], ◌∷◌, ◌++◌, length, All, Option, Some, None, IfSome, slice_get}
use Rattle.ur_base.specs.Told.{WhereTold}
use Rattle.ur_values.specs.declared.schema.Numbered.{Numbered}
use Rattle.ur_values.specs.declared.schema.Schema.{Schema}
use Rattle.ur_values.specs.declared.schema.TableShape.{TableShape}
use Rattle.ur_values.specs.SchemaText.{schema_text}
use Rattle.ur_values.specs.Extends.{extends}
use Rattle.ur_keeper.specs.declared.keeper.Attached.{Attached}
use Rattle.ur_keeper.specs.declared.keeper.Attached.TheVariants.{Ready, Differs}
use Rattle.ur_keeper.specs.Keeper.{IsReadAs, Attaches, AttachesTo, IsReadyOnly}
use Rattle.ur_keeper.specs.Growing.{grown_tables}
use Rattle.ur_keeper.specs.Tables.{MayCommitTable, AreRowsOf, AreSound, empty_tables}
use Rattle.ur_keeper_bodies.specs.Rows.{int_body}
use Rattle.ur_keeper_bodies.specs.declared.bodies.BodyChange.{BodyChange}
use Rattle.ur_keeper_bodies.specs.declared.bodies.BodyChange.TheVariants as change
use Rattle.ur_keeper_bodies.specs.Bodies.{BodyMap, body_at, bodies_of}
use Rattle.ur_keeper_bodies.specs.declared.stored.Layout.{Layout}
use Rattle.ur_keeper_bodies.specs.declared.stored.Layout.TheVariants as layouts
use Rattle.ur_keeper_bodies.specs.Stored.{stored_text, parted}
use Rattle.ur_keeper_kept.specs.Laid.{text_at, table_tab, columns_at, table_by, tables_in, tables_by, IsBodyBy, IsLaidBy}
use Rattle.ur_keeper_kept.specs.Rewriting.{all_puts}
use Rattle.ur_keeper_kept.specs.First.{renewing}
use Rattle.ur_keeper_kept.specs.Kept.{no_changes, kept_in, saved_in, IsGoodFor, IsPending, IsNumber}

-- ---- what is tested

-- rows that a table may have at an `attach`
pub record IsSoundRows (shape : TableShape) (rows : List Numbered) : Type 0 where
  pub commits : MayCommitTable shape rows
  pub numbers : All (λ r. r.number ≤ 4611686018427387904) rows

-- table i reads in this layout, and its rows are sound
pub record IsSoundTable (layout : Layout) (schema : Schema) (m : BodyMap) (i : ℕ) : Type 0 where
  pub laid : All (IsBodyBy layout (columns_at schema i)) (bodies_of m (table_tab i))
  pub fits : IfSome (slice_get schema.tables i) (λ shape. AreRowsOf shape (table_by layout schema m i))
  pub sound : IfSome (slice_get schema.tables i) (λ shape. IsSoundRows shape (table_by layout schema m i))

-- sequence i reads, and its number is sound
abbrev pub IsSoundSequence : BodyMap → ℕ → Type 0
IsSoundSequence m i = (n : ℤ) × IsNumber (body_at m (pos 1) (pos i)) n × (pos 1 ≤ℤ n) × (n ≤ℤ pos 4611686018427387904)

pub record IsSoundStore (layout : Layout) (schema : Schema) (m : BodyMap) : Type 0 where
  pub laid : IsLaidBy layout schema m
  pub sound : AreSound schema (tables_by layout schema m)

-- the text that is there tells this layout and is this schema's
abbrev pub IsKeptText : Layout → Schema → BodyMap → Type 0
IsKeptText layout kept m = (stored : List ℕ) × (text_at m ≡ Some stored) × (parted stored ≡ (layout, schema_text kept))

-- ---- what is made

-- each sequence from number k on at 1, so many of them
abbrev pub ones : ℕ → ℕ → List BodyChange
ones k zero = []
ones k (suc n) = change.Add (pos 1) (pos k) (int_body (pos 1)) ∷ ones (k + 1) n

-- a store in which nothing has happened yet
pub record IsFresh (schema : Schema) (m : BodyMap) : Type 0 where
  pub pending : IsPending schema m no_changes
  pub tables : tables_in schema m ≡ empty_tables schema

abbrev pub Starts : Schema → Option BodyMap → Option BodyMap → Type 0
Starts schema None new = new ≡ None
Starts schema (Some m) new = (after : BodyMap) × (new ≡ Some after) × IsFresh schema after

-- a store that was taken for the schema
pub record IsTaken (schema : Schema) (m : BodyMap) : Type 0 where
  pub pending : IsPending schema m no_changes
  pub sound : AreSound schema (tables_in schema m)

-- the text is put anew, where the schema is another one
pub data IsTextChange (schema kept : Schema) : List BodyChange → Type 0 where
  none : kept ≡ schema → IsTextChange schema kept []
  one : IsTextChange schema kept (change.Put (pos 0) (pos 0) (stored_text schema) ∷ [])

-- what is written to a store of a kept schema: rows of the first layout and the text, or the text alone
abbrev pub IsGrowth : Layout → Schema → Schema → BodyMap → List BodyChange → Type 0
IsGrowth layouts.One schema kept m changes = changes ≡ all_puts (renewing schema kept) m 0 (length kept.tables) ++ change.Put (pos 0) (pos 0) (stored_text schema) ∷ []
IsGrowth layouts.Two schema kept m changes = IsTextChange schema kept changes

-- the store has the kept tables, with Absent in each new column
abbrev pub Grows : Layout → Schema → Schema → Option BodyMap → Option BodyMap → Type 0
Grows layout schema kept None new = new ≡ None
Grows layout schema kept (Some m) new = (after : BodyMap) × (new ≡ Some after) × IsTaken schema after × (tables_in schema after ≡ grown_tables schema kept (tables_by layout kept m))

-- ---- what is answered

-- by a store with a known schema
abbrev pub Again : Schema → Schema → Attached → Option BodyMap → Option BodyMap → Type 0
Again known schema Ready old new = (extends schema known ≡ true) × Grows layouts.Two schema known old new
Again known schema (Differs other) old new = (other ≡ known) × (extends schema known ≡ false) × (new ≡ old)

-- by a store with this text
abbrev pub Reads : Schema → List ℕ → Attached → Option BodyMap → Option BodyMap → Type 0
Reads schema stored Ready old new = (kept : Schema) × IsReadAs schema (parted stored).1 kept × (extends schema kept ≡ true) × Grows (parted stored).0 schema kept old new
Reads schema stored (Differs other) old new = IsReadAs schema (parted stored).1 other × (extends schema other ≡ false) × (new ≡ old)

-- the tables afterwards: empty ones where there was no text, and the kept ones, grown, where there was one
abbrev pub TakesFrom : Schema → BodyMap → BodyMap → Option (List ℕ) → Type 0
TakesFrom schema m after None = tables_in schema after ≡ empty_tables schema
TakesFrom schema m after (Some stored) =
    (kept : Schema) × IsReadAs schema (parted stored).1 kept × (extends schema kept ≡ true) × (tables_in schema after ≡ grown_tables schema kept (tables_by (parted stored).0 kept m))

-- the text that is there is read as this schema
abbrev pub HasTextOf : Schema → Schema → Option (List ℕ) → Type 0
HasTextOf schema other None = ⊥
HasTextOf schema other (Some stored) = IsReadAs schema (parted stored).1 other

-- by a store of which nothing is known
abbrev pub Takes : Schema → Option BodyMap → Option BodyMap → Type 0
Takes schema None new = new ≡ None
Takes schema (Some m) new = (after : BodyMap) × (new ≡ Some after) × IsTaken schema after × TakesFrom schema m after (text_at m)

abbrev pub First : Schema → Attached → Option BodyMap → Option BodyMap → Type 0
First schema Ready old new = Takes schema old new
First schema (Differs other) old new = (extends schema other ≡ false) × (new ≡ old) × WhereTold old (λ m. HasTextOf schema other (text_at m))

abbrev pub kept_after : Schema → Option Schema → Attached → Option Schema
kept_after schema old Ready = Some schema
kept_after schema old (Differs other) = old

-- ---- what is told, before and after

-- nothing changes of what is told, and the store is as good as before
pub record IsSame (first first' : Bool) (told told' : Option BodyMap) (schema schema' : Option Schema) : Type 0 where
  pub saved : saved_in first' told' schema' ≡ saved_in first told schema
  pub kept : kept_in first' told' schema' ≡ kept_in first told schema
  pub good : IsGoodFor schema' told' no_changes

-- the answer is one that a keeper may give
pub record IsAnswer (schema : Schema) (answer : Attached) (first first' : Bool) (told told' : Option BodyMap) (s s' : Option Schema) : Type 0 where
  pub attaches_to : AttachesTo schema (kept_in first told s) answer (saved_in first told s) (saved_in first' told' s')
  pub attaches : Attaches schema answer (saved_in first told s) (saved_in first' told' s') (kept_in first told s) (kept_in first' told' s')
  pub sound : IsReadyOnly schema answer (saved_in first' told' s')
  pub good : IsGoodFor s' told' no_changes
