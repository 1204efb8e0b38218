-- What breaks the rule of an operator, by the types of its sides.
use Rattle.std.specs.Prelude.{◌≡◌, ℕ, false, List, Some, None, codes}
use Rattle.ur_rows.specs.declared.normal.NormalType.{NormalType}
use Rattle.ur_rows.specs.declared.normal.Part.{Part}
use Rattle.ur_rows.specs.Apart.{Assumptions}
use Rattle.ur_tree.specs.Typing.{Operation, joins}
use Rattle.ur_typed_rules.specs.Tests.{is_apart}
use Rattle.ur_typed_rules.specs.Faults.{Fault, not_apart, not_of_type}
use Rattle.ur_typed_rules.specs.Rules.{row_of}

-- two rows that are not apart
pub data BreaksJoined (known : Assumptions) (r t : List Part) : Fault → Type 0 where
  rows_meet : is_apart known r t ≡ false → BreaksJoined known r t (not_apart r t)

-- two types that are not those of records whose rows are apart
pub data BreaksJoin (names : List (List ℕ)) (known : Assumptions) (a b : NormalType) : Fault → Type 0 where
  left_none : row_of a ≡ None → BreaksJoin names known a b (not_of_type names a (codes "a record"))
  right_none : {r : List Part} → row_of a ≡ Some r → row_of b ≡ None → BreaksJoin names known a b (not_of_type names b (codes "a record"))
  both_meet : {r t : List Part} {f : Fault} → row_of a ≡ Some r → row_of b ≡ Some t → BreaksJoined known r t f → BreaksJoin names known a b f

-- only `++` asks more of its sides than their types
pub record BreaksOperation (names : List (List ℕ)) (known : Assumptions) (o : Operation) (a b : NormalType) (f : Fault) : Type 0 where
  pub is_join : o ≡ joins
  pub broken : BreaksJoin names known a b f
