-- How a run ends, and what is so then.
use Rattle.std.specs.Prelude.{◌≡◌, ◌≢◌, ◌⊎◌, ℕ, ◌<◌, min, Bool, false, List, [], length, Option, Some, None, Result, Ok, Err, Any, ⊤}
use Rattle.ur_base.specs.Counts.{Rose}
use Rattle.ur_base.specs.Told.{WhereTold}
use Rattle.ur_base.specs.declared.refusal.Memory.{Memory}
use Rattle.ur_io.specs.Files.{Files}
use Rattle.ur_io.specs.Fronts.{IsFront}
use Rattle.ur_io.specs.Traffic.{Traffic}
use Rattle.ur_io.specs.declared.session.SessionEnd.{SessionEnd}
use Rattle.ur_words.specs.declared.reading.Reading.{Reading}
use Rattle.ur_words.specs.declared.reading.Reading.TheVariants.{Check, Sites, Replay, Serve, Load}
use Rattle.ur_words.specs.declared.reading.Settings.{Settings}
use Rattle.ur_values.specs.declared.schema.Schema.{Schema}
use Rattle.ur_values.specs.Extends.{extends}
use Rattle.ur_keeper.specs.Keeper.{AttachesTo, HasOther}
use Rattle.ur_keeper.specs.declared.keeper.Attached.TheVariants.{Differs}
use Rattle.ur_keeper.specs.Tables.{Tables, KeptSchema}
use Rattle.ur_conditions.specs.declared.patterns.Patterns.{Patterns}
use Rattle.ur_conditions.specs.Patterns.{AreAllPatterns}
use Rattle.ur_invalidate.specs.Texts.{sites_text}
use Rattle.ur_sql.specs.declared.query.Query.{Query}
use Rattle.ur_sql.specs.declared.change.Change.{Change}
use Rattle.ur_words.specs.Texts as texts
use Rattle.ur_compile.specs.Explains.{Refuses}
use Rattle.ur_headline.specs.Counting.{next_failed, IsCutOff, IsWireStatus, HasAllMarks}
use Rattle.ur_headline.specs.Readings.{serving, ForServing}
use Rattle.ur_top.specs.Loads.{IsLoadReport}
use Rattle.ur_top.specs.Prints.{first_line}
use Rattle.ur_top.specs.Sources.{OfSource, OfApplication, IsCompiled}
use Rattle.ur_top.specs.declared.reporting.RunEnd.{RunEnd}
use Rattle.ur_top.specs.declared.reporting.RunEnd.TheVariants as end

-- the outside of a run, but for its sink
pub record World : Type 0 where
  pub shelf_faults : ℕ
  pub wire : Option Traffic
  pub current : Bool
  pub wire_faults : ℕ
  pub kept : KeptSchema
  pub saved : Option Tables
  pub reads : ℕ
  pub under_way : Bool
  pub keeper_faults : ℕ

-- the same, of the devices by what their traits tell
abbrev pub world : {S W K : Type 0} → (S → ℕ) → (W → Option Traffic) → (W → Bool) → (W → ℕ) → (K → KeptSchema) → (K → Option Tables) → (K → ℕ) → (K → Bool) → (K → ℕ)
    → S → W → K → World
world shelf_faults wire current wire_faults kept saved reads under_way keeper_faults s w k = record {
  shelf_faults = shelf_faults s;
  wire = wire w;
  current = current w;
  wire_faults = wire_faults w;
  kept = kept k;
  saved = saved k;
  reads = reads k;
  under_way = under_way k;
  keeper_faults = keeper_faults k;
}

-- the command reads files
abbrev pub HasFiles : Option Reading → Type 0
HasFiles None = ⊥
HasFiles (Some (Load seed n)) = ⊥
HasFiles reading = ⊤

-- the wire was not called, and there is no session
pub record NoCalls (old new : World) (sessions : List SessionEnd) : Type 0 where
  pub none : sessions ≡ []
  pub same_wire : new.wire ≡ old.wire
  pub same_faults : new.wire_faults ≡ old.wire_faults
  pub same_current : new.current ≡ old.current

-- the wire was not called
abbrev pub SameWire : World → World → Type 0
SameWire old new = (new.wire ≡ old.wire) × (new.wire_faults ≡ old.wire_faults) × (new.current ≡ old.current)

-- the keeper told no schema that the application's does not extend
abbrev pub AttachedTo : Option Files → Option Reading → World → Type 0
AttachedTo told reading old = OfApplication told reading (λ app. HasOther app.schema old.kept → ⊥)

-- all connections that were allowed are served, or the run's requests are over
pub record IsServed (told : Option Files) (reading : Option Reading) (old new : World) (sessions : List SessionEnd) : Type 0 where
  pub compiled : IsCompiled told reading
  pub serves : serving reading ≢ None
  pub none_current : new.current ≡ false
  pub same_schema : AttachedTo told reading old
  pub all : WhereTold old.wire (λ t. ForServing reading (λ s. (length sessions ≡ min s.most (length t.coming)) ⊎ HasAllMarks sessions))
  pub whole : (p : List ℕ) (s : Settings) → reading ≡ Some (Replay p s) → Any IsCutOff sessions → ⊥

-- the wire failed where it was asked for a connection, or cut off the one of `replay`
pub record IsWireFault (told : Option Files) (reading : Option Reading) (old new : World) (sessions : List SessionEnd) : Type 0 where
  pub compiled : IsCompiled told reading
  pub serves : serving reading ≢ None
  pub none_current : new.current ≡ false
  pub same_schema : AttachedTo told reading old
  pub rose : Rose old.wire_faults new.wire_faults
  pub status : IsWireStatus reading sessions

-- memory was wanting, before serving or while serving
pub record IsWant (told : Option Files) (reading : Option Reading) (old new : World) (sessions : List SessionEnd) : Type 0 where
  pub none_current : sessions ≢ [] → new.current ≡ false
  pub same_schema : sessions ≢ [] → AttachedTo told reading old
  pub whole : (p : List ℕ) (s : Settings) → reading ≡ Some (Replay p s) → Any IsCutOff sessions → ⊥

-- the keeper keeps a schema that the application's does not extend
pub record IsOtherSchema (told : Option Files) (reading : Option Reading) (old new : World) (sessions : List SessionEnd) (kept application : Schema) : Type 0 where
  pub compiled : IsCompiled told reading
  pub serves : serving reading ≢ None
  pub its : OfApplication told reading (λ app. application ≡ app.schema)
  pub differs : extends application kept ≡ false
  pub attaches : AttachesTo application old.kept (Differs kept) old.saved new.saved
  pub same_saved : new.saved ≡ old.saved
  pub same_kept : new.kept ≡ old.kept
  pub no_calls : NoCalls old new sessions

-- the text of the sites of the application
pub record IsListing (told : Option Files) (reading : Option Reading) (text : List ℕ) : Type 0 where
  pub project : List ℕ
  pub queries : List Query
  pub changes : List Change
  pub patterns : Patterns
  pub asked : reading ≡ Some (Sites project)
  pub its : OfApplication told reading (λ app. (queries ≡ app.queries) × (changes ≡ app.changes))
  pub all : AreAllPatterns queries changes patterns
  pub is : text ≡ sites_text queries changes patterns

-- how a run ends
abbrev pub Ends : Option Files → Option Reading → World → World → RunEnd → List SessionEnd → Type 0
Ends told reading old new end.Usage sessions = (reading ≡ None) × NoCalls old new sessions
Ends told reading old new (end.Checked routes) sessions =
    ((p : List ℕ) × (reading ≡ Some (Check p)) × OfApplication told reading (λ app. routes ≡ length app.handlers.routes)) × IsCompiled told reading × NoCalls old new sessions
Ends told reading old new (end.Listed text) sessions = IsListing told reading text × IsCompiled told reading × NoCalls old new sessions
Ends told reading old new (end.Loaded r) sessions = ((seed : ℕ) × (reading ≡ Some (Load seed r.requests)) × IsLoadReport seed r) × IsCompiled told reading × NoCalls old new sessions
Ends told reading old new (end.Refused file r) sessions = OfSource told reading (λ files word. Refuses files word file r) × NoCalls old new sessions
Ends told reading old new (end.Schema kept application) sessions = IsOtherSchema told reading old new sessions kept application
Ends told reading old new end.Shelf sessions = HasFiles reading × Rose old.shelf_faults new.shelf_faults × NoCalls old new sessions
Ends told reading old new end.Keeper sessions = IsCompiled told reading × (serving reading ≢ None) × Rose old.keeper_faults new.keeper_faults × NoCalls old new sessions
Ends told reading old new end.Sink sessions = ((p : List ℕ) × (port : ℕ) × (s : Settings) × (n : ℕ) × (reading ≡ Some (Serve p port s n))) × NoCalls old new sessions
Ends told reading old new end.Wire sessions = IsWireFault told reading old new sessions
Ends told reading old new end.Memory sessions = IsWant told reading old new sessions
Ends told reading old new end.Done sessions = IsServed told reading old new sessions

-- one where `next` failed
abbrev pub failed_next : Option Reading → List SessionEnd → RunEnd → ℕ
failed_next reading sessions end.Wire = next_failed reading sessions 6
failed_next reading sessions e = 0

-- serving did not begin, and nothing was written
abbrev pub IsUnserved : RunEnd → Type 0
IsUnserved end.Done = ⊥
IsUnserved end.Wire = ⊥
IsUnserved end.Memory = ⊥
IsUnserved end.Sink = ⊥
IsUnserved e = ⊤

-- a command that serves does so on some connections
abbrev pub ServesSome : Reading → Type 0
ServesSome (Serve p port s n) = 0 < n
ServesSome reading = ⊤

-- what was printed before the report of this end
abbrev pub IsSaid : Option Reading → RunEnd → List ℕ → Type 0
IsSaid reading end.Done said = said ≡ first_line reading
IsSaid reading end.Wire said = said ≡ first_line reading
IsSaid reading end.Memory said = (said ≡ []) ⊎ (said ≡ first_line reading)
IsSaid reading end.Sink said = IsFront said (first_line reading)
IsSaid reading other said = said ≡ []

-- what was said of a text: all of it at this status, or a front of it at 5
abbrev pub SaysAt : ℕ → List ℕ → ℕ → List ℕ → Type 0
SaysAt status text at' said = ((at' ≡ status) × (said ≡ text)) ⊎ ((at' ≡ 5) × IsFront said text)

-- the same of a text for which memory may be wanting
abbrev pub SaysMade : ℕ → List ℕ → ℕ → List ℕ → Type 0
SaysMade status text at' said = SaysAt status text at' said ⊎ SaysAt 8 texts.memory at' said

-- the same of a text that was made, or for which memory was wanting
abbrev pub SaysOf : ℕ → Result (List ℕ) Memory → ℕ → List ℕ → Type 0
SaysOf status (Ok text) at' said = SaysAt status text at' said
SaysOf status (Err e) at' said = SaysAt 8 texts.memory at' said

-- the status of an end, and the report that is printed then
abbrev pub Reports : RunEnd → ℕ → List ℕ → Type 0
Reports end.Done status said = (status ≡ 0) × (said ≡ [])
Reports (end.Checked routes) status said = SaysMade 0 (texts.check_report routes) status said
Reports (end.Listed text) status said = SaysAt 0 text status said
Reports (end.Loaded r) status said = SaysMade 0 (texts.load_report r) status said
Reports end.Usage status said = SaysAt 1 texts.usage status said
Reports (end.Refused file r) status said = SaysMade 2 (texts.refusal_line file r) status said
Reports (end.Schema kept application) status said = SaysMade 3 (texts.schema_report kept application) status said
Reports end.Shelf status said = SaysAt 4 texts.shelf_fault status said
Reports end.Sink status said = (status ≡ 5) × (said ≡ [])
Reports end.Wire status said = SaysAt 6 texts.wire_fault status said
Reports end.Keeper status said = SaysAt 7 texts.keeper_fault status said
Reports end.Memory status said = SaysAt 8 texts.memory status said

-- the status alone
abbrev pub IsStatus : RunEnd → ℕ → Type 0
IsStatus end.Done status = status ≡ 0
IsStatus (end.Checked routes) status = (status ≡ 0) ⊎ ((status ≡ 5) ⊎ (status ≡ 8))
IsStatus (end.Listed text) status = (status ≡ 0) ⊎ (status ≡ 5)
IsStatus (end.Loaded r) status = (status ≡ 0) ⊎ ((status ≡ 5) ⊎ (status ≡ 8))
IsStatus end.Usage status = (status ≡ 1) ⊎ (status ≡ 5)
IsStatus (end.Refused file r) status = (status ≡ 2) ⊎ ((status ≡ 5) ⊎ (status ≡ 8))
IsStatus (end.Schema kept application) status = (status ≡ 3) ⊎ ((status ≡ 5) ⊎ (status ≡ 8))
IsStatus end.Shelf status = (status ≡ 4) ⊎ (status ≡ 5)
IsStatus end.Sink status = status ≡ 5
IsStatus end.Wire status = (status ≡ 6) ⊎ (status ≡ 5)
IsStatus end.Keeper status = (status ≡ 7) ⊎ (status ≡ 5)
IsStatus end.Memory status = (status ≡ 8) ⊎ (status ≡ 5)
