-- Why a constructor has no kind, or not the one that is wanted.
use Rattle.std.specs.Prelude.{◌≡◌, ℕ, List, [], Option, Some, None}
use Rattle.ur_base.specs.Stopping.{Says}
use Rattle.ur_base.specs.declared.refusal.Refusal.{Refusal}
use Rattle.ur_syntax.specs.declared.kind.Kind.{Kind}
use Rattle.ur_syntax.specs.declared.con.ConForm.{ConForm}
use Rattle.ur_syntax.specs.HasKind.{Scope, HasKind}
use Rattle.ur_kinds.specs.Faults.{HasFault, Misfits}
use Rattle.ur_kinds.specs.Unknown.{unknown_in}

-- the first unknown name is told, or where there is none, P holds of a refusal of kinds
abbrev pub Told : Option (List ℕ) → Refusal → Type 0 → Type 0
Told (Some x) r P = Says r 7 x []
Told None r P = (r.code ≡ 9) × P

-- there is no kind: a name is unknown, or else a rule is broken
pub record HasNoKind (s : Scope) (c : ConForm) (r : Refusal) : Type 0 where
  pub none : (k : Kind) → HasKind s c k → ⊥
  pub told : Told (unknown_in s c) r (HasFault s c r)

-- the kind that is wanted is not there: a name is unknown, or else a rule is broken or there is another kind
pub record HasNotKind (s : Scope) (c : ConForm) (wanted : Kind) (r : Refusal) : Type 0 where
  pub none : HasKind s c wanted → ⊥
  pub told : Told (unknown_in s c) r (Misfits s c wanted r)
