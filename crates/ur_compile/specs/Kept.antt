-- What is known of compiled code.
use Rattle.std.specs.Prelude.{◌≡◌, map}
use Rattle.ur_code.specs.declared.code.Code.{Code}
use Rattle.ur_code.specs.Fits.{Fits}
use Rattle.ur_tree.specs.declared.typed.Typed.{Typed}
use Rattle.ur_unfold.specs.Limits.{IsSmall}
use Rattle.ur_check_limits.specs.Limits.{IsWithinLimits}
use Rattle.ur_mono.specs.Mono.{IsMeaningOf, cookie_of}
use Rattle.ur_effects.specs.Refused.{GetNeverWrites}
use Rattle.ur_compile.specs.Passes.{Passes}

-- The code has the application's routes, cookies, tables, queries and changes; each request means by the source what it
-- comes to by the code, and nothing else; it fits its types; no route that answers GET writes; no limit is exceeded.
pub record IsCodeFor (app : Typed) (code : Code) : Type 0 where
  pub handlers : code.handlers ≡ app.handlers
  pub cookies : code.cookies ≡ map cookie_of app.cookies
  pub schema : code.schema ≡ app.schema
  pub queries : code.queries ≡ app.queries
  pub changes : code.changes ≡ app.changes
  pub meaning : IsMeaningOf app code
  pub fits : Fits code
  pub gets : GetNeverWrites code
  pub small : IsSmall app
  pub limits : IsWithinLimits app
  -- the same of each numbering of the instances
  pub passes : Passes app
