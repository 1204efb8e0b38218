-- Laws of kinds.
use Rattle.std.specs.Prelude.{◌≡◌, None}
use Rattle.ur_syntax.specs.declared.kind.Kind.{Kind}
use Rattle.ur_syntax.specs.declared.con.ConForm.{ConForm}
use Rattle.ur_syntax.specs.HasKind.{Scope, HasKind}
use Rattle.ur_kinds.specs.Unknown.{unknown_in}

-- a constructor has at most one kind
abbrev pub OneKind : Type 0
OneKind = (s : Scope) (c : ConForm) (k j : Kind) → HasKind s c k → HasKind s c j → k ≡ j

-- what has a kind has no unknown name
abbrev pub KindedIsKnown : Type 0
KindedIsKnown = (s : Scope) (c : ConForm) (k : Kind) → HasKind s c k → unknown_in s c ≡ None
