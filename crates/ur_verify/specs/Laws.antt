-- Laws of types.
use Rattle.std.specs.Prelude.{◌≡◌, List}
use Rattle.ur_values.specs.declared.types.ValueType.{ValueType}
use Rattle.ur_terms.specs.declared.term.Term.{Term}
use Rattle.ur_terms.specs.Types.{Signature, HasType}
use Rattle.ur_code.specs.declared.code.Code.{Code}
use Rattle.ur_code.specs.Fits.{Fits}
use Rattle.ur_verify_operations.specs.Saying.{TwoTexts}
use Rattle.ur_verify.specs.Misfits.{CodeMisfit}

-- a term has at most one type
abbrev pub TypesAreUnique : Type 0
TypesAreUnique = (sig : Signature) (env : List ValueType) (term : Term) (a b : ValueType) → HasType sig env term a → HasType sig env term b → a ≡ b

-- code of which something is said at a place does not fit
abbrev pub MisfitsAreCauses : Type 0
MisfitsAreCauses = (code : Code) (said : TwoTexts) → CodeMisfit code said → Fits code → ⊥
