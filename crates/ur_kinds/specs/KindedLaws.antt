-- Laws of kinds over a source.
use Rattle.std.specs.Prelude.{◌≡◌, List, ◌∷◌, ◌++◌, None}
use Rattle.ur_base.specs.declared.refusal.Refusal.{Refusal}
use Rattle.ur_syntax.specs.declared.kind.Kind.{Kind}
use Rattle.ur_syntax.specs.declared.con.Con.{Con}
use Rattle.ur_syntax.specs.HasKind.{HasKind, scope_in}
use Rattle.ur_kinds.specs.Unknown.{unknown_in}
use Rattle.ur_kinds.specs.declared.state.State.{State}
use Rattle.ur_kinds.specs.Acts.{Act, written}
use Rattle.ur_kinds.specs.KindedFaults.{after_all, AreKinded, FirstFault}

-- a source in which a fault is told is not kinded
abbrev pub FaultyIsNotKinded : Type 0
FaultyIsNotKinded = (s : State) (acts : List Act) (r : Refusal) → FirstFault s acts r → AreKinded s acts → ⊥

-- two refusals of one source name one place
abbrev pub OneFaultOfKinds : Type 0
OneFaultOfKinds = (s : State) (acts : List Act) (q r : Refusal) → FirstFault s acts q → FirstFault s acts r → (q.code ≡ r.code) × (q.span ≡ r.span)

-- in a source that is kinded, a written constructor whose names are in scope has the kind that its place wants
abbrev pub EachHasItsKind : Type 0
EachHasItsKind = (s : State) (before behind : List Act) (c : Con) (k : Kind) → AreKinded s (before ++ written c k ∷ behind) →
    unknown_in (scope_in (after_all s before).env) c.form ≡ None → HasKind (scope_in (after_all s before).env) c.form k
