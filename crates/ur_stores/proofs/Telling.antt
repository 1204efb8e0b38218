-- What a run says of a keeper that was made for it: the premise on the keeper is met, and its words are those of the store.
use Rattle.std.proofs.Common.{◌≡◌, ℕ, Bool, true, false, List, Option, Some, None, refl, sym, subst}
use Rattle.std.proofs.lemmas.Bool.{false≢true}
use Rattle.sqlite.specs.Store as store
use Rattle.ur_io.specs.Files.{Files}
use Rattle.ur_io.specs.Traffic.{Traffic}
use Rattle.ur_keeper.specs.Keeper.{TellsStore}
use Rattle.ur_keeper.specs.Memory.{Memory, kept_of as kept_of_memory, empty_memory, no_tables}
use Rattle.ur_keeper.specs.Tables.{Empty}
use Rattle.ur_keeper_bodies.specs.Bodies.{BodyMap}
use Rattle.ur_keeper_kept.specs.Kept.{KeptState, no_changes, kept_of, saved_of}
use Rattle.ur_sqlkeeper.specs.Bodies.{SqlState}
use Rattle.ur_sqlkeeper.specs.Serving.{told_by}
use Rattle.ur_tree.specs.declared.typed.Typed.{Typed}
use Rattle.ur_words.specs.declared.reading.Reading.{Reading}
use Rattle.ur_headline.specs.Readings.{Serving, serving, IfServing}
use Rattle.ur_top.specs.Runs.{IsServing}
use Rattle.ur_top.specs.Sources.{ForApplication}
use Rattle.ur_top.specs.declared.outcome.Outcome.{Outcome}
use Rattle.ur_top.proofs.Cases.{told_more}
use Rattle.ur_stores.specs.Stores.{ServesFrom, ServesStore}

if_more : (o : Option Serving) (P Q : Serving → Type 0) → ((s : Serving) → P s → Q s) → IfServing o P → IfServing o Q
if_more None P Q f h = tt
if_more (Some s) P Q f h = f s h

-- what holds of each application
for_more : (o : Option Files) (r : Option Reading) (P Q : Serving → Typed → Type 0) → ((s : Serving) (app : Typed) → P s app → Q s app) → ForApplication o r P → ForApplication o r Q
for_more o r P Q f h = told_more o _ _ h (λ files x. if_more (serving r) _ _ (λ s y app accepted. f s app (y app accepted)) x)

-- a keeper that has had no `attach`
abbrev pub unattached : {B : Type 0} → B → KeptState B
unattached bodies = record { bodies = bodies; schema = None; under_way = false; pending = no_changes; reads = 0; found = 0 }

module _ {S W : Type 0} (g : store.Ghosts S) (found : BodyMap) (bodies : SqlState S) (files : Option Files) (reading : Option Reading)
    (told : W → Option Traffic) (w w' : W) (after : KeptState (SqlState S)) (ended : Outcome) where
  abbrev Runs : Bool → KeptState (SqlState S) → Type 0
  Runs honest k = ForApplication files reading (λ s app. IsServing app s (kept_of (λ b. honest) (λ b. told_by g honest found b.conn))
      (saved_of (λ b. honest) (λ b. told_by g honest found b.conn)) (λ k. k.reads) k after told w w' ended)

  abbrev Tells : Bool → Type 0
  Tells honest = (k : KeptState (SqlState S)) → TellsStore (kept_of (λ b. honest) (λ b. told_by g honest found b.conn) k) (saved_of (λ b. honest) (λ b. told_by g honest found b.conn) k)

  at_first : Tells true → Runs true (unattached bodies) → ForApplication files reading (λ s app. ServesStore g found bodies app s after told w w' ended)
  at_first tells h = for_more files reading _ _ (λ s app serves some. serves some (tells (unattached bodies))) h

  pub serves_store : (honest : Bool) (k : KeptState (SqlState S)) → honest ≡ true → Tells honest → k ≡ unattached bodies → Runs honest k
      → ForApplication files reading (λ s app. ServesStore g found bodies app s after told w w' ended)
  serves_store true k is tells fresh h = at_first tells (subst (Runs true) fresh h)
  serves_store false k is tells fresh h = absurd (false≢true is)

-- the same of tables in memory
module _ {W : Type 0} (files : Option Files) (reading : Option Reading) (told : W → Option Traffic) (w w' : W) (after : Memory) (ended : Outcome) where
  abbrev RunsInMemory : Memory → Type 0
  RunsInMemory k = ForApplication files reading (λ s app. IsServing app s (λ (m : Memory). kept_of_memory m.kept) (λ m. Some m.saved) (λ m. m.reads) k after told w w' ended)

  empty_at_first : (fail : List ℕ) → RunsInMemory (empty_memory fail) → ForApplication files reading (λ s app. ServesFrom app s Empty (Some no_tables) (Some after.saved) after.reads told w w' ended)
  empty_at_first fail h = for_more files reading _ _ (λ s app serves some. serves some refl) h

  pub serves_memory : (k : Memory) (fail : List ℕ) → k ≡ empty_memory fail → RunsInMemory k
      → ForApplication files reading (λ s app. ServesFrom app s Empty (Some no_tables) (Some after.saved) after.reads told w w' ended)
  serves_memory k fail fresh h = empty_at_first fail (subst RunsInMemory fresh h)
