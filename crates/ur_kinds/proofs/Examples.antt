-- Kinds in small sources.
use Rattle.std.specs.Prelude.{◌≡◌, [], ◌∷◌, codes, Some, None, refl}
use Rattle.ur_base.specs.Stopping.{Says}
use Rattle.ur_base.specs.declared.refusal.Span.{Span}
use Rattle.ur_base.specs.declared.refusal.Refusal.{Refusal}
use Rattle.ur_syntax.specs.declared.kind.Kind.TheVariants as kind
use Rattle.ur_syntax.specs.declared.con.Con.{Con}
use Rattle.ur_syntax.specs.declared.con.ConForm.TheVariants as con
use Rattle.ur_syntax.specs.declared.exp.ExpForm.{end_of-Exp as alone, more_of-Exp as its}
use Rattle.ur_syntax.specs.declared.exp.ExpForm.TheVariants as e
use Rattle.ur_syntax.specs.Kinds.{arrow}
use Rattle.ur_syntax.specs.Names.{own, member}
use Rattle.ur_syntax.specs.HasKind.{HasKind, scope_in, named, word}
use Rattle.ur_kinds.specs.Faults.{other_kind}
use Rattle.ur_kinds.specs.declared.state.State.{State}
use Rattle.ur_kinds.specs.Acts.{open_scope, close_scope, enter, variable, constructor, local, function, plain, type_at}
use Rattle.ur_kinds.specs.KindedFaults.{FirstFault, here, later, after_all, start, wanted_of}

-- `fun f [nm :: Name] [r :: {Type}] ..` of the module M
abbrev with_f : State
with_f = after_all start (enter (codes "M") ∷ function (codes "f") (kind.Name ∷ kind.Row ∷ []) ∷ [])

first-argument : wanted_of with_f (e.Var (codes "f")) ≡ Some kind.Name
first-argument = refl

second-argument : (p : Span) (c : Con) → wanted_of with_f (e.ConApp' tt (its p (e.Var (codes "f")) alone) c) ≡ Some kind.Row
second-argument p c = refl

-- of a third one no kind is wanted
third-argument : (p q : Span) (c d : Con) → wanted_of with_f (e.ConApp' tt (its q (e.ConApp' tt (its p (e.Var (codes "f")) alone) c) alone) d) ≡ None
third-argument p q c d = refl

-- a variable hides a function, in its scope alone
hidden : wanted_of (after_all with_f (open_scope ∷ local (codes "f") ∷ [])) (e.Var (codes "f")) ≡ None
hidden = refl

seen-again : wanted_of (after_all with_f (open_scope ∷ local (codes "f") ∷ close_scope ∷ [])) (e.Var (codes "f")) ≡ Some kind.Name
seen-again = refl

-- from another module it is `M.f`
from-another : wanted_of (after_all with_f (enter (codes "N") ∷ [])) (e.Member (codes "M") (codes "f")) ≡ Some kind.Name
from-another = refl

bare-from-another : wanted_of (after_all with_f (enter (codes "N") ∷ [])) (e.Var (codes "f")) ≡ None
bare-from-another = refl

-- a constructor variable is gone behind its scope, and a module's constructor stays
after-a-scope : (scope_in (after_all start (enter (codes "M") ∷ constructor (codes "t") kind.Star ∷ open_scope ∷ variable (codes "x") kind.Name ∷ close_scope ∷ [])).env).names ≡ (member (codes "M") (codes "t"), kind.Star) ∷ []
after-a-scope = refl

within-a-scope : (scope_in (after_all start (open_scope ∷ variable (codes "x") kind.Name ∷ [])).env).names ≡ (own (codes "x"), kind.Name) ∷ []
within-a-scope = refl

-- a parameter of a kind of functions is told with the kind and `Type`
of-functions : (p : Span) (r : Refusal) → Says r 9 (codes "Type -> Type") (codes "Type") → r.span ≡ p → FirstFault start (plain p (arrow kind.Star kind.Star) ∷ []) r
of-functions p r t e = here (refl, t, e)

-- `int` where a type is wanted is passed over
passed : (p q : Span) (r : Refusal) → Says r 9 (codes "Type -> Type") (codes "Type") → r.span ≡ q →
    FirstFault start (type_at (record { span = p; form = con.Var (codes "int") }) ∷ plain q (arrow kind.Star kind.Star) ∷ []) r
passed p q r t e = later (λ known. word refl refl) (here (refl, t, e))

-- `option` where a type is wanted
maker : (p : Span) (r : Refusal) → Says r 9 (codes "Type -> Type") (codes "Type") → r.span ≡ p → FirstFault start (type_at (record { span = p; form = con.Var (codes "option") }) ∷ []) r
maker p r t e = here (record { known = refl; none = no-type; code = t.0; place = e; told = other_kind (word refl refl) differ t }) where
  differ : arrow kind.Star kind.Star ≡ kind.Star → ⊥
  differ h = absurd (cc)

  no-type : HasKind (scope_in start.env) (con.Var (codes "option")) kind.Star → ⊥
  no-type (named h) = absurd (cc)
  no-type (word h k) = absurd (cc)
