-- The states of a connection that serves the table.
use Rattle.std.specs.Prelude.{◌≡◌, ◌≢◌, ◌⊎◌, Bool, true, false, if◌then◌else◌, Option, Some, None, IsSome, IsTrue, refl}
use Rattle.std.proofs.lemmas.Bool.{false≢true}
use Rattle.std.specs.FinMap.{empty}
use Rattle.sqlite.specs.Effect.{Database}
use Rattle.sqlite.specs.State.{State}
use Rattle.sqlite.specs.Held.{Held, state}
use Rattle.sqlite.specs.Store as store
use Rattle.sqlite.specs.Steps.{over_memory}
use Rattle.sqlite_trees.specs.declared.memory.MemStore.{MemStore}
use Rattle.ur_keeper.specs.Tables.{Tables, KeptSchema}
use Rattle.ur_keeper_bodies.specs.Bodies.{BodyMap}
use Rattle.ur_keeper_kept.specs.Kept.{KeptState, kept_of, saved_of}
use Rattle.ur_sqlkeeper.specs.Bodies.{SqlState}
use Rattle.ur_sqlkeeper.specs.Table.{ur_schema, no_schema}
use Rattle.ur_sqlkeeper.specs.Rows.{AreKept, map_in}

abbrev pub no_bodies : BodyMap
no_bodies = empty

-- rows of ours, which tell this map
pub record Holds (found : BodyMap) (db : Database) : Type 0 where
  pub rows : AreKept (db.trees 0)
  pub map : map_in (db.trees 0) ≡ found

-- the database is the one table, with rows of its form
pub record IsOurs (db : Database) : Type 0 where
  pub schema : db.schema ≡ ur_schema
  pub rows : AreKept (db.trees 0)

-- it has the one table, and nothing is under way
pub record IsServing (s : State) : Type 0 where
  pub ours : IsOurs s.now
  pub settled : s.committed ≡ s.now
  pub idle : s.in_transaction ≡ false

-- the same database, with nothing under way
pub record IsStill (db : Database) (s : State) : Type 0 where
  pub now : s.now ≡ db
  pub committed : s.committed ≡ db
  pub idle : s.in_transaction ≡ false

-- what a store holds that a connection finds: no table yet, where there are no bodies, or rows of ours, which tell them
abbrev pub IsFound : BodyMap → Database → Type 0
IsFound found db = ((db.schema ≡ no_schema) × (found ≡ empty)) ⊎ ((db.schema ≢ no_schema) × Holds found db)

-- Over a store that is honest: the map that the table tells, and before there is a connection the one that it will find.
abbrev pub map_of : {S : Type 0} → store.Ghosts S → BodyMap → Option (Held S) → BodyMap
map_of g found None = found
map_of g found (Some c) = map_in ((state g c).now.trees 0)

abbrev pub told_by : {S : Type 0} → store.Ghosts S → Bool → BodyMap → Option (Held S) → Option BodyMap
told_by g honest found conn = if honest then Some (map_of g found conn) else None

-- where it is honest, something is told
pub is_told : (honest : Bool) (m : BodyMap) → honest ≡ true → IsSome (if honest then Some m else None)
is_told true m h = refl
is_told false m h = absurd (false≢true h)

-- a connection that is made serves the map that was told before
pub record Connects (found : BodyMap) (s : State) : Type 0 where
  pub serves : IsServing s
  pub map : map_in (s.now.trees 0) ≡ found

-- a statement within a transaction has changed the map in this way
pub record Makes (f : BodyMap → BodyMap) (old new : State) : Type 0 where
  pub ours : IsOurs new.now
  pub committed : new.committed ≡ old.committed
  pub under_way : IsTrue new.in_transaction
  pub map : map_in (new.now.trees 0) ≡ f (map_in (old.now.trees 0))

-- ---- a keeper over a store in memory

abbrev pub told_in_memory : SqlState MemStore → Option BodyMap
told_in_memory b = told_by over_memory true empty b.conn

abbrev pub kept_in_memory : KeptState (SqlState MemStore) → KeptSchema
kept_in_memory = kept_of (λ _. true) told_in_memory

abbrev pub saved_in_memory : KeptState (SqlState MemStore) → Option Tables
saved_in_memory = saved_of (λ _. true) told_in_memory
