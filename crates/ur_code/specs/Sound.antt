-- What the typing table gives: no call of fitting code is stuck, and what it comes to has its type.
use Rattle.std.specs.Prelude.{length}
use Rattle.std.specs.List.{AllZip}
use Rattle.ur_values.specs.declared.types.ValueType.{ValueType}
use Rattle.ur_values.specs.declared.types.ValueType.TheVariants as ty
use Rattle.ur_values.specs.declared.value.Value.{Value, end_of-Value, more_of-Value}
use Rattle.ur_values.specs.declared.value.Value.TheVariants as v
use Rattle.ur_values.specs.declared.value.Call.{Call}
use Rattle.ur_values.specs.Store.{FitsSchema, FitsKind}
use Rattle.ur_terms.specs.State.{State, Outcome}
use Rattle.ur_terms.specs.Inhabits.{Inhabits}
use Rattle.ur_terms.specs.Sound.{Comes, NumbersLast}
use Rattle.ur_code.specs.declared.code.Code.{Code}
use Rattle.ur_code.specs.declared.code.Cookie.{Cookie}
use Rattle.ur_code.specs.Links.{HasOwnCalls}
use Rattle.ur_code.specs.RouteTypes.{IsRequestOf}
use Rattle.ur_code.specs.Meaning.{outcome}
use Rattle.ur_code.specs.Fits.{Fits}

-- an optional value of the cookie's kind
abbrev pub FitsCookie : Value → Cookie → Type 0
FitsCookie v.Absent c = Unit {0}
FitsCookie (v.Present' _ (more_of-Value x end_of-Value)) c = FitsKind x c.of
FitsCookie _ c = ⊥

-- A state of the code: its tables have their shapes, its sequences' numbers stay ints while units are left, and its
-- cookies have their kinds.
pub record FitsState (code : Code) (s : State) : Type 0 where
  pub store : FitsSchema code.schema s.store
  pub numbers : NumbersLast (length code.schema.sequences) s.units s.store
  pub carried : AllZip FitsCookie s.carried code.cookies

-- a value of the type, its XML having calls of routes that answer them
abbrev pub IsOf : Code → Value → ValueType → Type 0
IsOf code = Inhabits (HasOwnCalls code.handlers) code.variants

-- a page and a state that fits, or XML as the body of an error, or the budget spent
abbrev pub IsSound : Code → Outcome Value → Type 0
IsSound code = Comes (λ x. IsOf code x ty.Page) (FitsState code) (λ x. IsOf code x ty.Xbody)

abbrev pub NeverStuck : Code → Type 0
NeverStuck code = Fits code → (call : Call) (s : State) → IsRequestOf code.handlers call → FitsState code s → IsSound code (outcome code call s)
