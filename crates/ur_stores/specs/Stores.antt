-- What a run serves whose tables are in memory or in a database, from what the store has at first.
use Rattle.std.specs.Prelude.{◌≢◌, ℕ, true, [], Option, Some}
use Rattle.sqlite.specs.Store as store
use Rattle.ur_base.specs.Told.{WhereTold, Tells}
use Rattle.ur_io.specs.Traffic.{Traffic}
use Rattle.ur_keeper.specs.Tables.{Tables, KeptSchema, store_of}
use Rattle.ur_keeper_bodies.specs.Bodies.{BodyMap}
use Rattle.ur_keeper_kept.specs.Kept.{KeptState, found_in, tables_found, saved_of}
use Rattle.ur_keeper_kept.specs.Laid.{text_at}
use Rattle.ur_sqlkeeper.specs.Bodies.{SqlState}
use Rattle.ur_sqlkeeper.specs.Serving.{map_of}
use Rattle.ur_tree.specs.declared.typed.Typed.{Typed}
use Rattle.ur_headline.specs.Readings.{Serving}
use Rattle.ur_headline.specs.Serves.{Serves}
use Rattle.ur_top.specs.declared.outcome.Outcome.{Outcome}

-- Where there is a session, the sessions, the bytes given and the tables afterwards are the application's, from a store that has this at
-- first.
abbrev pub ServesFrom : {W : Type 0} → Typed → Serving → KeptSchema → Option Tables → Option Tables → ℕ → (W → Option Traffic) → W → W → Outcome → Type 0
ServesFrom app s kept saved saved' reads' told w w' ended = ended.sessions ≢ [] → WhereTold (told w) (λ t. Tells saved' (λ after.
    Serves app s.settings kept saved t ended.sessions (told w') (store_of after) 0 reads'))

-- the tables that an honest store has saved
abbrev pub saved_over : {S : Type 0} → store.Ghosts S → BodyMap → KeptState (SqlState S) → Option Tables
saved_over g found keeper = saved_of (λ b. true) (λ b. Some (map_of g found b.conn)) keeper

-- The same over an honest store, which has the bodies that a connection finds: no text, or the text of a schema with the tables that it has
-- under each.
abbrev pub ServesStore : {S W : Type 0} → store.Ghosts S → BodyMap → SqlState S → Typed → Serving → KeptState (SqlState S) → (W → Option Traffic) → W → W → Outcome → Type 0
ServesStore g found bodies app s keeper told w w' ended =
    let m : BodyMap = map_of g found bodies.conn in
    ServesFrom app s (found_in m (text_at m)) (tables_found (text_at m)) (saved_over g found keeper) keeper.reads told w w' ended
