-- Programs that run without tables.
use Rattle.std.specs.Prelude.{◌≡◌, ◌≢◌, ℤ, pos, false, List, [], ◌∷◌}
use Rattle.ur_values.specs.declared.types.ValueType.TheVariants as ty
use Rattle.ur_values.specs.declared.value.Value.{Value}
use Rattle.ur_values.specs.declared.value.Value.TheVariants as v
use Rattle.ur_terms.specs.declared.term.Branch.{Branch}
use Rattle.ur_terms.specs.declared.term.Function.{Function}
use Rattle.ur_terms.specs.declared.term.Op.TheVariants as op
use Rattle.ur_terms.specs.declared.term.Pattern.TheVariants as p
use Rattle.ur_terms.specs.declared.term.Term.{Term}
use Rattle.ur_terms.specs.declared.term.Term.TheVariants as t
use Rattle.ur_terms.specs.State.{State, Done, Stuck}
use Rattle.ur_terms.specs.Run.{Calls, eval, outcome_of}
use Rattle.ur_machine_frames.specs.Plays.{until}

-- a function of no name with this body
abbrev pub function : Term → Function
function body = record { name = []; params = []; result = ty.Int; runs = false; body = body }

-- ---- rows that are counted

-- one, and the count of the rows behind the first
abbrev pub one_and_rest : Term
one_and_rest = t.Make op.Add (t.Int (pos 1) ∷ t.Call 0 (t.Variable 1 ∷ []) ∷ [])

abbrev pub branches : List Branch
branches = record { pattern = p.Empty; body = t.Int (pos 0) } ∷ record { pattern = p.Cons; body = one_and_rest } ∷ []

-- counts the rows of a list by a call each, within the call before
abbrev pub counting : List Function
counting = function (t.Case (t.Variable 0) branches) ∷ []

-- the only argument is a list
abbrev pub IsOneList : List Value → Type 0
IsOneList args = (rows : List Value) × (args ≡ v.Many rows ∷ [])

-- ---- sums that nest

-- a term that comes to an int
abbrev pub IsSum : Term → Type 0
IsSum a = (c : Calls) (env : List Value) (s : State) → (n : ℤ) × (eval until c a env s ≡ Done (v.Int n) s)

-- the only function is such a term
abbrev pub AreSums : List Function → Type 0
AreSums fs = (body : Term) × IsSum body × (fs ≡ function body ∷ [])

-- ---- calls

-- a call of the first function does not get stuck, however many units are left
abbrev pub IsSafeCall : List Function → List Value → Type 0
IsSafeCall fs args = (s : State) → outcome_of until fs 0 args s ≢ Stuck
