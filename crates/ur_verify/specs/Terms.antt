-- Terms and branches as lists.
use Rattle.std.specs.Prelude.{List, ◌++◌, ◌<◌, length, All}
use Rattle.std.specs.List.{AllZip}
use Rattle.ur_values.specs.declared.types.ValueType.{ValueType}
use Rattle.ur_terms.specs.declared.term.Term.{Term}
use Rattle.ur_terms.specs.declared.term.Branch.{Branch}
use Rattle.ur_terms.specs.Types.{Signature, Binds, HasType}

-- each term has its type
abbrev pub HaveAll : Signature → List ValueType → List Term → List ValueType → Type 0
HaveAll sig env = AllZip (HasType sig env)

-- the branch's body has the type, where its pattern matches what has the other
abbrev pub BranchFits : Signature → List ValueType → ValueType → Branch → ValueType → Type 0
BranchFits sig env a b r = (bound : List ValueType) × Binds sig b.pattern a bound × HasType sig (bound ++ env) b.body r

-- there are branches, and each one's body has the type
abbrev pub BranchesFit : Signature → List ValueType → ValueType → List Branch → ValueType → Type 0
BranchesFit sig env a bs r = (0 < length bs) × All (λ b. BranchFits sig env a b r) bs
