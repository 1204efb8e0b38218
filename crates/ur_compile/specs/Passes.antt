-- What the compiler asks of an application besides its typing.
use Rattle.ur_code.specs.declared.code.Code.{Code}
use Rattle.ur_code.specs.Fits.{Fits}
use Rattle.ur_tree.specs.declared.typed.Typed.{Typed}
use Rattle.ur_tree.specs.declared.closed.Closed.{Closed}
use Rattle.ur_source.specs.Instances.{IsClosed}
use Rattle.ur_unfold.specs.Limits.{IsSmall}
use Rattle.ur_check_limits.specs.Limits.{IsWithinLimits}
use Rattle.ur_mono.specs.Mono.{IsCodeOf}
use Rattle.ur_effects.specs.Refused.{GetNeverWrites}

-- what code of the application's instances satisfies, whatever their numbering
abbrev pub OfCode : Typed → (Code → Type 0) → Type 0
OfCode app P = (closed : Closed) (code : Code) → IsClosed app closed → IsCodeOf closed code → P code

-- what holds of the code of one numbering of an application's instances holds of that of each
abbrev pub IsOfEach : (Code → Type 0) → Type 0
IsOfEach P = (app : Typed) (closed : Closed) (code : Code) → IsClosed app closed → IsCodeOf closed code → P code → OfCode app P

-- Its instances are few, small and flat, and fit their types; no route that answers GET writes; no limit is exceeded.
pub record Passes (app : Typed) : Type 0 where
  pub small : IsSmall app
  pub fit : OfCode app Fits
  pub gets : OfCode app GetNeverWrites
  pub limits : IsWithinLimits app
