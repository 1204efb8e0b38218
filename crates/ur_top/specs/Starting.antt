-- A project compiled and its server, or how a run ends without them.
use Rattle.std.specs.Prelude.{◌≡◌, ◌≤◌, ℕ, Bool, false, List, [], length, Option, Some, ⊤}
use Rattle.ur_base.specs.Counts.{Rose}
use Rattle.ur_base.specs.Told.{WhereTold}
use Rattle.ur_io.specs.Files.{Files}
use Rattle.ur_words.specs.declared.reading.Settings.{Settings}
use Rattle.ur_values.specs.declared.schema.Schema.{Schema}
use Rattle.ur_values.specs.Extends.{extends}
use Rattle.ur_keeper.specs.Keeper.{AttachesTo}
use Rattle.ur_keeper.specs.declared.keeper.Attached.TheVariants.{Ready, Differs}
use Rattle.ur_keeper.specs.Tables.{Tables, KeptSchema, AreSound, NumbersUpTo}
use Rattle.ur_tags.specs.Routes.{AreRoutes}
use Rattle.ur_code.specs.declared.code.Code.{Code}
use Rattle.ur_conditions.specs.declared.patterns.Patterns.{Patterns}
use Rattle.ur_conditions.specs.Patterns.{AreAllPatterns}
use Rattle.ur_invalidate.specs.Texts.{sites_text}
use Rattle.ur_sql.specs.declared.query.Query.{Query}
use Rattle.ur_sql.specs.declared.change.Change.{Change}
use Rattle.ur_serve.specs.Serving.{ServerState, IsReady}
use Rattle.ur_compile.specs.declared.compiled.CompileEnd.{CompileEnd}
use Rattle.ur_compile.specs.declared.compiled.CompileEnd.TheVariants as compile
use Rattle.ur_compile.specs.Explains.{Refuses}
use Rattle.ur_compile.specs.Kept.{IsCodeFor}
use Rattle.ur_top.specs.Loads.{IsLoadReport}
use Rattle.ur_top.specs.Notes.{notes_files, notes_word}
use Rattle.ur_top.specs.Sources.{OfFiles, IsCoded}
use Rattle.ur_top.specs.declared.reporting.RunEnd.{RunEnd}
use Rattle.ur_top.specs.declared.reporting.RunEnd.TheVariants as end

-- how a run ends where the compiler gave no code
abbrev pub ends_as : CompileEnd → RunEnd
ends_as (compile.Refused file r) = end.Refused file r
ends_as compile.Shelf = end.Shelf
ends_as compile.Memory = end.Memory

-- why there is no code of the project of this name: it is refused, the shelf failed, or memory is wanting
abbrev pub Uncompiled : Option Files → List ℕ → ℕ → ℕ → RunEnd → Type 0
Uncompiled told word faults faults' (end.Refused file r) = WhereTold told (λ files. Refuses files word file r)
Uncompiled told word faults faults' end.Shelf = Rose faults faults'
Uncompiled told word faults faults' end.Memory = ⊤
Uncompiled told word faults faults' e = ⊥

-- the end of `check`: how many routes the application has, or why there is no code
abbrev pub IsChecked : Option Files → List ℕ → ℕ → ℕ → RunEnd → Type 0
IsChecked told word faults faults' (end.Checked routes) = OfFiles told word (λ app. routes ≡ length app.handlers.routes) × OfFiles told word IsCoded
IsChecked told word faults faults' e = Uncompiled told word faults faults' e

-- the text of the sites of the application
pub record IsListed (told : Option Files) (word text : List ℕ) : Type 0 where
  pub queries : List Query
  pub changes : List Change
  pub patterns : Patterns
  pub its : OfFiles told word (λ app. (queries ≡ app.queries) × (changes ≡ app.changes))
  pub all : AreAllPatterns queries changes patterns
  pub is : text ≡ sites_text queries changes patterns

-- the end of `sites`
abbrev pub IsSited : Option Files → List ℕ → ℕ → ℕ → RunEnd → Type 0
IsSited told word faults faults' (end.Listed text) = IsListed told word text × OfFiles told word IsCoded
IsSited told word faults faults' e = Uncompiled told word faults faults' e

-- the end of `load`
abbrev pub IsLoadEnd : ℕ → ℕ → RunEnd → Type 0
IsLoadEnd seed n (end.Loaded r) = (r.requests ≡ n) × IsLoadReport seed r × OfFiles (Some notes_files) notes_word IsCoded
IsLoadEnd seed n (end.Refused file r) = Refuses notes_files notes_word file r
IsLoadEnd seed n end.Memory = ⊤
IsLoadEnd seed n e = ⊥

-- what a keeper tells, and its count of faults
pub record Held : Type 0 where
  pub kept : KeptSchema
  pub saved : Option Tables
  pub faults : ℕ

-- the keeper keeps a schema that the application's does not extend
pub record HoldsOther (schema : Schema) (old new : Held) (kept application : Schema) : Type 0 where
  pub its : application ≡ schema
  pub differs : extends application kept ≡ false
  pub attaches : AttachesTo application old.kept (Differs kept) old.saved new.saved
  pub same_saved : new.saved ≡ old.saved
  pub same_kept : new.kept ≡ old.kept

-- why code of this schema is not served: another schema is kept, the keeper failed, or memory is wanting
abbrev pub Unattached : Schema → Held → Held → RunEnd → Type 0
Unattached schema old new (end.Schema kept application) = HoldsOther schema old new kept application
Unattached schema old new end.Keeper = Rose old.faults new.faults
Unattached schema old new end.Memory = ⊤
Unattached schema old new e = ⊥

-- why a project is not served
abbrev pub Unstarted : Option Files → List ℕ → ℕ → ℕ → Held → Held → RunEnd → Type 0
Unstarted told word faults faults' old new (end.Schema kept application) = OfFiles told word (λ app. HoldsOther app.schema old new kept application) × OfFiles told word IsCoded
    × (extends application kept ≡ false) × AttachesTo application old.kept (Differs kept) old.saved new.saved × (new.saved ≡ old.saved) × (new.kept ≡ old.kept)
Unstarted told word faults faults' old new end.Keeper = OfFiles told word IsCoded × Rose old.faults new.faults
Unstarted told word faults faults' old new e = Uncompiled told word faults faults' e

-- A server of code, attached to the keeper, that has answered nothing yet.
pub record IsAttachedServer (code : Code) (patterns : Patterns) (settings : Settings) (old new : Held) (under_way : Bool) (s : ServerState) : Type 0 where
  pub is : s ≡ record { code = code; patterns = patterns; cache = record { capacity = settings.cache; entries = []; masks = [] }; steps = settings.steps; pages = [] }
  pub routes : AreRoutes code.handlers
  pub units : settings.steps ≤ 4294967295
  pub ready : IsReady s new.kept under_way new.saved
  pub attached : AttachesTo code.schema old.kept Ready old.saved new.saved
  pub sound : WhereTold new.saved (AreSound code.schema)
  pub numbers : WhereTold new.saved (NumbersUpTo 4611686018427387904)

-- A server of the project of this name.
pub record IsStarted (told : Option Files) (word : List ℕ) (settings : Settings) (old new : Held) (under_way : Bool) (s : ServerState) : Type 0 where
  pub coded : OfFiles told word (λ app. IsCodeFor app s.code)
  pub patterns : AreAllPatterns s.code.queries s.code.changes s.patterns
  pub server : IsAttachedServer s.code s.patterns settings old new under_way s
