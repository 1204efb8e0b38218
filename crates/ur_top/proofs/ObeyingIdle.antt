-- What is so after a command that serves nothing.
use Rattle.std.proofs.Common.{◌≡◌, ◌≢◌, inl, ℕ, ◌+◌, ◌≤◌, false, List, [], ◌++◌, Option, Some, None, refl, sym, ap, subst, ◌∙◌, arith, append-nil}
use Rattle.ur_base.specs.Told.{WhereTold}
use Rattle.ur_io.specs.Calls.{count_after}
use Rattle.ur_io.specs.Files.{Files}
use Rattle.ur_io.specs.declared.session.SessionEnd.{SessionEnd}
use Rattle.ur_words.specs.declared.reading.Reading.{Reading}
use Rattle.ur_words.specs.declared.reading.Reading.TheVariants.{Check, Sites, Serve, Load}
use Rattle.ur_words.specs.declared.reading.Settings.{Settings}
use Rattle.ur_values.specs.declared.schema.Schema.{Schema}
use Rattle.ur_values.proofs.Extending.{extends-itself}
use Rattle.ur_keeper.specs.Tables.{Tables, KeptSchema, Untold, Empty, Keeps, Spells}
use Rattle.ur_tree.specs.declared.typed.Typed.{Typed}
use Rattle.ur_compile.specs.Accepts.{Accepts}
use Rattle.ur_compile.specs.Explains.{Refuses}
use Rattle.ur_headline.specs.Readings.{Serving, serving}
use Rattle.ur_headline.specs.Serves.{IsAttached}
use Rattle.ur_headline.proofs.Counting.{rose_none}
use Rattle.ur_top.specs.Ends.{World, HasFiles, NoCalls, IsWant, IsSaid, Ends, failed_next}
use Rattle.ur_top.specs.Obeyed.{Obeyed}
use Rattle.ur_top.specs.Prints.{first_line}
use Rattle.ur_top.specs.Sources.{ForApplication, OfSource, IsCoded}
use Rattle.ur_top.specs.Starting.{Held, Uncompiled, IsChecked, IsSited, IsLoadEnd, HoldsOther, Unstarted}
use Rattle.ur_top.specs.declared.reporting.RunEnd.{RunEnd}
use Rattle.ur_top.specs.declared.reporting.RunEnd.TheVariants as end
use Rattle.ur_top.proofs.Cases.{none_cut, told_is, told_more, if_serving, of_served}
use Rattle.ur_top.proofs.Goings.{no_requests}

-- nothing but the shelf was called, or what was called left all as it was; no count fell
pub record IsIdle (old new : World) : Type 0 where
  pub wire : new.wire ≡ old.wire
  pub current : new.current ≡ old.current
  pub wire_faults : new.wire_faults ≡ old.wire_faults
  pub kept : new.kept ≡ old.kept
  pub saved : new.saved ≡ old.saved
  pub reads : new.reads ≡ old.reads
  pub at_rest : new.under_way ≡ false
  pub shelf_later : old.shelf_faults ≤ new.shelf_faults
  pub keeper_later : old.keeper_faults ≤ new.keeper_faults

-- what the keeper tells
abbrev pub held : World → Held
held w = record { kept = w.kept; saved = w.saved; faults = w.keeper_faults }

-- ---- how it ends

pub no_calls : (old new : World) → IsIdle old new → NoCalls old new []
no_calls old new h = record { none = refl; same_wire = h.wire; same_faults = h.wire_faults; same_current = h.current }

pub no_memory : (told : Option Files) (reading : Option Reading) (old new : World) → IsWant told reading old new []
no_memory told reading old new = record {
  none_current = λ some. absurd (some refl);
  same_schema = λ some. absurd (some refl);
  whole = λ p s is any. none_cut [] refl any;
}

-- where there is no code
module _ (told : Option Files) (reading : Option Reading) (word : List ℕ) (of : (P : Files → List ℕ → Type 0) → WhereTold told (λ files. P files word) → OfSource told reading P) (has_files : HasFiles reading) where
  pub uncompiled_ends : (old new : World) (e : RunEnd) → Uncompiled told word old.shelf_faults new.shelf_faults e → IsIdle old new → Ends told reading old new e []
  uncompiled_ends old new (end.Refused file r) h idle = (of (λ files word. Refuses files word file r) h, no_calls old new idle)
  uncompiled_ends old new end.Shelf h idle = (has_files, h, no_calls old new idle)
  uncompiled_ends old new end.Memory h idle = no_memory told reading old new
  uncompiled_ends old new e h idle = absurd h

  -- where there is code, but no server
  pub unstarted_ends : serving reading ≢ None → (old new : World) (e : RunEnd) → Unstarted told word old.shelf_faults new.shelf_faults (held old) (held new) e → IsIdle old new
      → Ends told reading old new e []
  unstarted_ends serves old new (end.Schema kept application) h idle = record {
    compiled = of (λ files word. (app : Typed) × Accepts files word app × IsCoded app) h.1;
    serves = serves;
    its = of (λ files word. (app : Typed) × Accepts files word app × (application ≡ app.schema))
        (told_more told (λ files. (app : Typed) × Accepts files word app × HoldsOther app.schema (held old) (held new) kept application)
        (λ files. (app : Typed) × Accepts files word app × (application ≡ app.schema)) h.0 (λ files x. (x.0, x.1, x.2.its)));
    differs = h.2;
    attaches = h.3;
    same_saved = h.4;
    same_kept = h.5;
    no_calls = no_calls old new idle;
  }
  unstarted_ends serves old new end.Keeper h idle = (of (λ files word. (app : Typed) × Accepts files word app × IsCoded app) h.0, serves, h.1, no_calls old new idle)
  unstarted_ends serves old new e h idle = uncompiled_ends old new e h idle

pub checked_ends : (told : Option Files) (word : List ℕ) (old new : World) (e : RunEnd) → IsChecked told word old.shelf_faults new.shelf_faults e →
    IsIdle old new
    → Ends told (Some (Check word)) old new e []
checked_ends told word old new (end.Checked routes) h idle = ((word, refl, h.0), h.1, no_calls old new idle)
checked_ends told word old new e h idle = uncompiled_ends told (Some (Check word)) word (λ P x. x) tt old new e h idle

pub sited_ends : (told : Option Files) (word : List ℕ) (old new : World) (e : RunEnd) → IsSited told word old.shelf_faults new.shelf_faults e → IsIdle old new
    → Ends told (Some (Sites word)) old new e []
sited_ends told word old new (end.Listed text) h idle = (
  record {
    project = word;
    queries = h.0.queries;
    changes = h.0.changes;
    patterns = h.0.patterns;
    asked = refl;
    its = h.0.its;
    all = h.0.all;
    is = h.0.is;
  },
  h.1,
  no_calls old new idle,
)
sited_ends told word old new e h idle = uncompiled_ends told (Some (Sites word)) word (λ P x. x) tt old new e h idle

pub loaded_ends : (told : Option Files) (seed n : ℕ) (old new : World) (e : RunEnd) → IsLoadEnd seed n e → IsIdle old new →
    Ends told (Some (Load seed n)) old new e []
loaded_ends told seed n old new (end.Loaded r) h idle = ((seed, ap (λ k. Some (Load seed k)) (sym h.0), h.1), h.2, no_calls old new idle)
loaded_ends told seed n old new (end.Refused file r) h idle = (h, no_calls old new idle)
loaded_ends told seed n old new end.Memory h idle = no_memory told (Some (Load seed n)) old new
loaded_ends told seed n old new e h idle = absurd h

-- ---- all of it

pub any_application : (told : Option Files) (reading : Option Reading) (P : Serving → Typed → Type 0) → ((s : Serving) (app : Typed) → P s app) →
    ForApplication told reading P
any_application told reading P h = of_served told reading (λ files s. (app : Typed) → Accepts files s.project app → P s app) (λ files s t at app a. h s app)

same_tables : (schema : Schema) (kept : KeptSchema) (saved saved' : Option Tables) → saved' ≡ saved → IsAttached schema kept saved saved'
same_tables schema Untold saved saved' same = tt
same_tables schema Empty saved saved' same = inl same
same_tables schema (Keeps k) saved saved' same = inl same
same_tables schema (Spells text tables) saved saved' same = inl same

-- where no call failed the count is as it was
pub none_counted : (n old : ℕ) → n ≡ 0 → old ≡ count_after (0 + n) old
none_counted n old none =
    let same : 0 ≡ 0 + n = omega (arith, none) in
    ap (λ k. count_after k old) same

-- no connection was asked for where serving did not begin
pub unstarted_next : (told : Option Files) (word : List ℕ) (faults faults' : ℕ) (old new : Held) (reading : Option Reading) (e : RunEnd) →
    Unstarted told word faults faults' old new e → failed_next reading [] e ≡ 0
unstarted_next told word faults faults' old new reading end.Wire h = absurd h
unstarted_next told word faults faults' old new reading e h = refl

-- nor by a command that serves nothing
pub check_next : (word : List ℕ) (e : RunEnd) → failed_next (Some (Check word)) [] e ≡ 0
check_next word end.Wire = refl
check_next word e = refl

pub sites_next : (word : List ℕ) (e : RunEnd) → failed_next (Some (Sites word)) [] e ≡ 0
sites_next word end.Wire = refl
sites_next word e = refl

pub load_next : (seed n : ℕ) (e : RunEnd) → failed_next (Some (Load seed n)) [] e ≡ 0
load_next seed n end.Wire = refl
load_next seed n e = refl

nothing : Schema
nothing = record { tables = []; sequences = [] }

pub idle_obeys : (told : Option Files) (tells : Type 0) (reading : Option Reading) (old new : World) (e : RunEnd) → IsIdle old new
    → (serving reading ≡ None → new ≡ record old { shelf_faults = new.shelf_faults }) → failed_next reading [] e ≡ 0 → Ends told reading old new e [] → Obeyed told tells reading old new e []
idle_obeys told tells reading old new e idle none unasked ends = record {
  serves = any_application told reading _ (λ s app some. absurd (some refl));
  links = any_application told reading _ (λ s app some. absurd (some refl));
  ends = ends;
  keeper_rose = rose_none old.keeper_faults new.keeper_faults idle.keeper_later;
  wire_counted = idle.wire_faults ∙ none_counted (failed_next reading [] e) old.wire_faults unasked;
  few = if_serving (serving reading) _ (λ s at. omega arith);
  few_requests = no_requests;
  no_serving = λ nothing. (refl, none nothing);
  idle = λ x. (told_is old.wire _ (λ t is. idle.wire ∙ is), idle.reads);
  attached = any_application told reading _ (λ s app x. same_tables app.schema old.kept old.saved new.saved idle.saved);
  unserved = λ x. (idle.saved, idle.kept);
  left = λ x. (nothing, same_tables nothing old.kept old.saved new.saved idle.saved);
  kept = any_application told reading _ (λ s app. inl idle.kept);
  schema_kept = λ k is. (k, idle.kept ∙ is, extends-itself k);
  wanting = λ none is. (idle.wire, idle.wire_faults, idle.current);
  at_rest = idle.at_rest;
  shelf_later = idle.shelf_later;
  wire_later = omega (arith, idle.wire_faults);
  keeper_later = idle.keeper_later;
}

-- ---- what was printed

-- the sink was not called
pub unsaid : (sink : Option (List ℕ)) (reading : Option Reading) (e : RunEnd) → IsSaid reading e []
    → WhereTold sink (λ before. (text : List ℕ) × (sink ≡ Some (before ++ text)) × IsSaid reading e text)
unsaid None reading e h = tt
unsaid (Some before) reading e h = ([], ap Some (sym (append-nil before)), h)

-- a command without a first line
pub quiet : (reading : Option Reading) (e : RunEnd) → first_line reading ≡ [] → IsSaid reading e []
quiet reading end.Done none = sym none
quiet reading end.Wire none = sym none
quiet reading end.Memory none = inl refl
quiet reading end.Sink none = (first_line reading, refl)
quiet reading e none = refl

-- no sink failed where the command has no first line
pub no_sink : (told : Option Files) (reading : Option Reading) (old new : World) (e : RunEnd) (sessions : List SessionEnd)
    → ((p : List ℕ) (port : ℕ) (s : Settings) (n : ℕ) → reading ≡ Some (Serve p port s n) → ⊥) → Ends told reading old new e sessions → e ≡ end.Sink → ⊥
no_sink told reading old new e sessions other ends is = at_sink (subst (λ x. Ends told reading old new x sessions) is ends)
  where
    at_sink : Ends told reading old new end.Sink sessions → ⊥
    at_sink (its, calls) = other its.0 its.1 its.2 its.3 its.4
