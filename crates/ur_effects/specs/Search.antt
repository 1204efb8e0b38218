-- The search for functions that routes with GET lead to.
use Rattle.std.specs.Prelude.{◌≡◌, ℕ, ◌+◌, ◌<◌, Bool, true, false, not, if◌then◌else◌, List, [], ◌∷◌, ◌++◌, length, Option, Some, None, Contains, slice_get, slice_set, count_by}
use Rattle.ur_terms.specs.Shape.{Deed, calls, dml, nextval, set_cookie}
use Rattle.ur_code.specs.declared.code.Code.{Code}
use Rattle.ur_terms.specs.declared.term.Function.{Function}
use Rattle.ur_effects.specs.declared.act.Write.{Write}
use Rattle.ur_effects.specs.declared.act.Act.{Act}
use Rattle.ur_effects.specs.declared.act.Act.TheVariants as act
pub use Rattle.ur_effects.specs.declared.search.Found.{Found}
pub use Rattle.ur_effects.specs.declared.search.Search.{Search}
use Rattle.ur_effects.specs.Writes.{IsGetTarget}
use Rattle.ur_effects.specs.Acts.{body_deeds, write_deed}

-- ---- steps

abbrev pub is_unseen : Option Bool → Bool
is_unseen None = false
is_unseen (Some seen) = not seen

-- a function more, if it is there and new
abbrev pub reached : Search → ℕ → Option ℕ → Search
reached s f caller =
    if is_unseen (slice_get s.seen f)
    then record { seen = slice_set s.seen f true; found = s.found ++ record { function = f; caller = caller } ∷ [] }
    else s

abbrev pub reached_by : ℕ → Search → Act → Search
reached_by caller s (act.Calls f) = reached s f (Some caller)
reached_by caller s (act.Writes w) = s

abbrev pub reached_of : Search → Bool → Option ℕ → Search
reached_of s get None = s
reached_of s get (Some f) = if get then reached s f None else s

-- ---- what is so of a search

-- A function at a place is a route's, or is called in the function at an earlier place.
abbrev pub IsLed : Code → List Found → ℕ → Found → Option ℕ → Type 0
IsLed code found place led None = IsGetTarget code led.function
IsLed code found place led (Some p) =
    (p < place) × ((e : Found) × (slice_get found p ≡ Some e) × Contains (body_deeds code.functions e.function) (calls led.function))

-- the function stands among those found
abbrev pub IsFound : List Found → ℕ → Type 0
IsFound found f = (k : ℕ) × (e : Found) × (slice_get found k ≡ Some e) × (e.function ≡ f)

-- each function found is led to
abbrev pub AreLed : Code → List Found → Type 0
AreLed code found = (k : ℕ) (e : Found) → slice_get found k ≡ Some e → IsLed code found k e e.caller

pub record IsSearch (code : Code) (s : Search) : Type 0 where
  pub size : length s.seen ≡ length code.functions
  pub fits : length s.found + count_by not s.seen ≡ length s.seen
  pub led : AreLed code s.found
  pub known : (f : ℕ) → slice_get s.seen f ≡ Some true → IsFound s.found f

-- each function that is there and that a route with GET has is found
abbrev pub HasTargets : Code → Search → Type 0
HasTargets code s = (f : ℕ) → IsGetTarget code f → f < length s.seen → slice_get s.seen f ≡ Some true

-- a call of a function that is found, if it is there; no write
abbrev pub IsHarmless : Search → Deed → Type 0
IsHarmless s (calls f) = f < length s.seen → slice_get s.seen f ≡ Some true
IsHarmless s dml = ⊥
IsHarmless s nextval = ⊥
IsHarmless s set_cookie = ⊥

-- the functions at the first places do nothing else
abbrev pub AreDone : Code → Search → ℕ → Type 0
AreDone code s n = (k : ℕ) (e : Found) → k < n → slice_get s.found k ≡ Some e → (d : Deed) → Contains (body_deeds code.functions e.function) d → IsHarmless s d

-- the body of the function that is found there holds the write
abbrev pub MakesWrite : List Function → Option Found → Write → Type 0
MakesWrite functions None w = ⊥
MakesWrite functions (Some e) w = Contains (body_deeds functions e.function) (write_deed w)
