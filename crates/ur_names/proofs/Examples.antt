-- The first fault of small sources.
use Rattle.std.specs.Prelude.{◌≡◌, [], ◌∷◌, codes, Some, None, refl}
use Rattle.ur_base.specs.declared.refusal.Span.{Span}
use Rattle.ur_syntax.specs.declared.exp.Binder.TheVariants as binder
use Rattle.ur_syntax.specs.declared.exp.PatForm.TheVariants as pat
use Rattle.ur_syntax.specs.declared.exp.ExpForm.TheVariants as e
use Rattle.ur_syntax.specs.declared.con.ConForm.TheVariants as con
use Rattle.ur_names.specs.declared.event.Sort.TheVariants as sort
use Rattle.ur_names.specs.declared.event.Event.TheVariants as event
use Rattle.ur_names.specs.Cons.{in_con}
use Rattle.ur_names.specs.Exps.{in_exp, in_pat_form}
use Rattle.ur_names.specs.Faults.{fault_in, start, unknown, repeated}

-- a variable that nothing binds
unknown-x : (p : Span) → fault_in start (in_exp p (e.Var (codes "x"))) ≡ Some (unknown p (codes "x"))
unknown-x p = refl

-- `True` is no constructor of a datatype, and `A` is one
true-is-known : (p : Span) → fault_in start (in_exp p (e.Constructor (codes "True"))) ≡ None
true-is-known p = refl

unknown-constructor : (p : Span) → fault_in start (in_exp p (e.Constructor (codes "A"))) ≡ Some (unknown p (codes "A"))
unknown-constructor p = refl

-- `int` is a type, and `map` alone is none
int-is-known : (p : Span) → fault_in start (in_con p (con.Var (codes "int"))) ≡ None
int-is-known p = refl

map-alone : (p : Span) → fault_in start (in_con p (con.Var (codes "map"))) ≡ Some (unknown p (codes "map"))
map-alone p = refl

-- `x :: x` as a pattern
twice : (p : Span) → fault_in start (in_pat_form p (pat.Cons (binder.Named (codes "x")) (binder.Named (codes "x")))) ≡ Some (repeated p (codes "x"))
twice p = refl

-- a name of a module's own is bare, and that of another one has its module
own-is-bare : (p : Span) → fault_in start (event.Enter (codes "M") ∷ event.Declare sort.Value (codes "f") ∷ event.Own sort.Value p (codes "f") ∷ []) ≡ None
own-is-bare p = refl

own-with-home : (p : Span) → fault_in start (event.Enter (codes "M") ∷ event.Declare sort.Value (codes "f") ∷ event.Member sort.Value p (codes "M") (codes "f") ∷ []) ≡ Some (unknown p (codes "M.f"))
own-with-home p = refl

of-another : (p : Span) → fault_in start (event.Enter (codes "M") ∷ event.Declare sort.Value (codes "f") ∷ event.Enter (codes "N") ∷ event.Member sort.Value p (codes "M") (codes "f") ∷ []) ≡ None
of-another p = refl

bare-of-another : (p : Span) → fault_in start (event.Enter (codes "M") ∷ event.Declare sort.Value (codes "f") ∷ event.Enter (codes "N") ∷ event.Own sort.Value p (codes "f") ∷ []) ≡ Some (unknown p (codes "f"))
bare-of-another p = refl

-- each sort has its own names, and a closed scope none
two-sorts : (p : Span) → fault_in start (event.New sort.Con p (codes "x") ∷ event.New sort.Value p (codes "x") ∷ []) ≡ None
two-sorts p = refl

closed-scope : (p : Span) → fault_in start (event.Open ∷ event.Bind sort.Value (codes "x") ∷ event.Close ∷ event.Own sort.Value p (codes "x") ∷ []) ≡ Some (unknown p (codes "x"))
closed-scope p = refl

-- an inner scope may give a name again
hidden : (p : Span) → fault_in start (event.New sort.Value p (codes "x") ∷ event.Open ∷ event.New sort.Value p (codes "x") ∷ event.Close ∷ []) ≡ None
hidden p = refl
