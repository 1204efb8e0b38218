-- What a run serves: the sessions, the bytes given and the tables afterwards are the source's.
use Rattle.std.specs.Prelude.{◌≡◌, ◌⊎◌, ℕ, true, ◌++◌, List, length, drop, Option, Some, option_map, ⊤}
use Rattle.ur_base.specs.Told.{Tells}
use Rattle.ur_io.specs.declared.session.SessionEnd.{SessionEnd}
use Rattle.ur_io.specs.Traffic.{Traffic}
use Rattle.ur_words.specs.declared.reading.Settings.{Settings}
use Rattle.ur_values.specs.declared.schema.Schema.{Schema}
use Rattle.ur_values.specs.Extends.{extends}
use Rattle.ur_values.specs.Store.{Store}
use Rattle.ur_keeper.specs.Growing.{grown_tables}
use Rattle.ur_keeper.specs.Keeper.{IsReadAs}
use Rattle.ur_keeper.specs.Tables.{Tables, KeptSchema, Untold, Empty, Keeps, Spells, AreSound, empty_tables, store_of}
use Rattle.ur_conditions.specs.declared.patterns.Patterns.{Patterns}
use Rattle.ur_conditions.specs.Patterns.{AreAllPatterns}
use Rattle.ur_tree.specs.declared.typed.Typed.{Typed}
use Rattle.ur_serve.specs.Program.{Holding, fresh}
use Rattle.ur_headline.specs.Source.{AreSessions, AreCachedSessions}

-- ---- tables

-- The tables that `attach` leaves: where the store was empty, the schema's empty ones; where it kept a schema or the text of one, those
-- that it had, with Absent in each new column. Of a store that did not tell its schema nothing is said.
abbrev pub AttachLeaves : Schema → KeptSchema → Option Tables → Tables → Type 0
AttachLeaves schema Untold saved tables = ⊤
AttachLeaves schema Empty saved tables = tables ≡ empty_tables schema
AttachLeaves schema (Keeps kept) saved tables = Some tables ≡ option_map (grown_tables schema kept) saved
AttachLeaves schema (Spells text has) saved tables = (kept : Schema) × IsReadAs schema text kept × (extends schema kept ≡ true) × (tables ≡ grown_tables schema kept (has kept))

-- The saved tables where nothing was served: as before, or, where the store was empty, the schema's empty ones, and where it kept a schema
-- or the text of one that the given one extends, those that it had, with Absent in each new column.
abbrev pub IsAttached : Schema → KeptSchema → Option Tables → Option Tables → Type 0
IsAttached schema Untold saved saved' = ⊤
IsAttached schema Empty saved saved' = (saved' ≡ saved) ⊎ (saved' ≡ option_map (λ t. empty_tables schema) saved)
IsAttached schema (Keeps kept) saved saved' = (saved' ≡ saved) ⊎ ((extends schema kept ≡ true) × (saved' ≡ option_map (grown_tables schema kept) saved))
IsAttached schema (Spells text has) saved saved' =
    (saved' ≡ saved) ⊎ ((kept : Schema) × IsReadAs schema text kept × (extends schema kept ≡ true) × (saved' ≡ Some (grown_tables schema kept (has kept))))

-- ---- runs

-- The count of scans is the one that the events of these sessions make with a cache of this capacity, which is empty at first.
pub record HasScans (app : Typed) (settings : Settings) (store : Store) (connections : List (List ℕ)) (sessions : List SessionEnd)
    (given : List (List ℕ)) (after : Store) (reads reads' : ℕ) : Type 0 where
  pub patterns : Patterns
  pub all_patterns : AreAllPatterns app.queries app.changes patterns
  pub end : Holding
  pub same_store : end.store ≡ after
  pub same_count : end.reads ≡ reads'
  pub cached : AreCachedSessions app settings.steps patterns settings.cache (fresh store reads) connections sessions given end

-- The wire took the first connections and gave this more on them. From the tables that `attach` left to those that are saved
-- now the sessions are the source's, whatever the capacity of the cache; and the scans are those of a cache of that capacity.
pub record Serves (app : Typed) (settings : Settings) (kept : KeptSchema) (saved : Option Tables) (t : Traffic) (sessions : List SessionEnd)
    (wire : Option Traffic) (after : Store) (reads reads' : ℕ) : Type 0 where
  pub tables : Tables
  pub attached : AttachLeaves app.schema kept saved tables
  pub sound : AreSound app.schema tables
  pub given : List (List ℕ)
  pub on_wire : Tells wire (λ u. (u.coming ≡ drop (length sessions) t.coming) × (u.given ≡ t.given ++ given))
  pub served : AreSessions app settings.steps (store_of tables) t.coming sessions given after
  pub scans : HasScans app settings (store_of tables) t.coming sessions given after reads reads'
