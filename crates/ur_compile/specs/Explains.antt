-- What the compiler's refusal says, one case for each step. The steps come in this order, and the first that refuses ends.
use Rattle.std.specs.Prelude.{◌≡◌, ℕ, List, Some}
use Rattle.ur_base.specs.declared.refusal.Refusal.{Refusal}
use Rattle.ur_base.specs.Stopping.{Says}
use Rattle.ur_io.specs.Files.{Files}
use Rattle.ur_code.specs.declared.code.Code.{Code}
use Rattle.ur_code.specs.Fits.{Fits}
use Rattle.ur_rows.specs.Nodes.{most_nodes}
use Rattle.ur_tree.specs.declared.typed.Typed.{Typed}
use Rattle.ur_tree.specs.declared.closed.Closed.{Closed}
use Rattle.ur_source.specs.Instances.{IsClosed}
use Rattle.ur_unfold.specs.Limits.{IsSmall}
use Rattle.ur_unfold.specs.Unfolding.{ExplainsUnfolded}
use Rattle.ur_mono.specs.Mono.{IsCodeOf}
use Rattle.ur_check_limits.specs.declared.limit.Limit.{Limit}
use Rattle.ur_check_limits.specs.Limits.{name_of, text_of, first_exceeded}
use Rattle.ur_verify.specs.Verifying.{ExplainsUnfit}
use Rattle.ur_effects.specs.Refused.{ExplainsWrite, GetNeverWrites}
use Rattle.ur_check.specs.Refused.{HasCause}
use Rattle.ur_load.specs.declared.loaded.Loaded.{Loaded}
use Rattle.ur_load.specs.Names.{project_file}
use Rattle.ur_load.specs.Loaded.{IsLoaded, file_at}
use Rattle.ur_load.specs.Refuses.{RefusesFiles}
use Rattle.ur_compile.specs.Accepts.{Accepts}
use Rattle.ur_compile.specs.Passes.{Passes}

-- The instances of the application are few, small and flat, and the code is of them.
pub record HasCode (app : Typed) (code : Code) : Type 0 where
  pub closed : Closed
  pub small : IsSmall app
  pub is_closed : IsClosed app closed
  pub is_code : IsCodeOf closed code

-- Why an application is no code.
pub data Fails (app : Typed) (r : Refusal) : Type 0 where
  -- instances (E17, E18)
  unfolded : ExplainsUnfolded app r → Fails app r
  -- first-order types (E19)
  unfit : (code : Code) → HasCode app code → ExplainsUnfit code r → Fails app r
  -- a route that answers GET writes (E14)
  writes : (code : Code) → HasCode app code → Fits code → ExplainsWrite code r → Fails app r
  -- the first limit that is exceeded (E20)
  limit : (code : Code) (l : Limit) → HasCode app code → Fits code → GetNeverWrites code
      → first_exceeded app ≡ Some l → Says r 20 (name_of l) (text_of l) → Fails app r

-- Why the files are no code, and in which file.
pub data Explains (files : Files) (project : List ℕ) (file : List ℕ) (r : Refusal) : Type 0 where
  -- files, tokens and grammar (E01 to E06, E20)
  no_files : RefusesFiles files project file r → Explains files project file r
  -- names, kinds and types (E07 to E13, E15, E16), in the file of the place
  untyped : (loaded : Loaded) → IsLoaded files project loaded → HasCause most_nodes loaded.names loaded.modules loaded.signature r
      → file ≡ file_at loaded r.span.file → Explains files project file r
  -- the application
  failed : (app : Typed) → Accepts files project app → Fails app r → file ≡ project_file project → Explains files project file r

-- The files are refused: the refusal says why, and no application of them passes.
pub record Refuses (files : Files) (project : List ℕ) (file : List ℕ) (r : Refusal) : Type 0 where
  pub why : Explains files project file r
  pub none : (app : Typed) → Accepts files project app → Passes app → ⊥
