-- What `effects` says of code.
use Rattle.std.specs.Prelude.{◌≡◌, ℕ, List, [], codes, Option, Some, None, slice_get}
use Rattle.std.specs.List.{join_by}
use Rattle.ur_base.specs.declared.refusal.Refusal.{Refusal}
use Rattle.ur_base.specs.Stopping.{Says}
use Rattle.ur_terms.specs.declared.term.Function.{Function}
use Rattle.ur_terms.specs.Shape.{Deed, calls, dml, nextval, set_cookie}
use Rattle.ur_code.specs.declared.code.Code.{Code}
use Rattle.ur_effects.specs.Writes.{GetWrites}

-- no chain of calls leads from a route that answers GET to a write
abbrev pub GetNeverWrites : Code → Type 0
GetNeverWrites code = (chain : List ℕ) (w : Deed) → GetWrites code chain w → ⊥

abbrev pub name_of : Option Function → List ℕ
name_of None = []
name_of (Some function) = function.name

-- the names of functions with ` > ` between each two
abbrev pub chain_text : List Function → List ℕ → List ℕ
chain_text functions chain = join_by (λ f. name_of (slice_get functions f)) (codes " > ") chain

-- how a write is written
abbrev pub deed_text : Deed → List ℕ
deed_text (calls f) = []
deed_text dml = codes "dml"
deed_text nextval = codes "nextval"
deed_text set_cookie = codes "setCookie"

-- a route that answers GET writes: by this chain of functions, and so; this stands at no place of the source
pub record ExplainsWrite (code : Code) (r : Refusal) : Type 0 where
  pub chain : List ℕ
  pub write : Deed
  pub writes : GetWrites code chain write
  pub says : Says r 14 (chain_text code.functions chain) (deed_text write)
  pub no_place : r.span ≡ record { file = 0; from = 0; to = 0 }
