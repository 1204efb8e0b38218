-- The fields of a record's type, and what breaks the rules of records.
use Rattle.std.specs.Prelude.{◌≡◌, ℕ, false, List, Option, Some, None, option_map, option_and_then, codes}
use Rattle.ur_rows.specs.declared.normal.Label.{Label}
use Rattle.ur_rows.specs.declared.normal.NormalType.{NormalType}
use Rattle.ur_rows.specs.declared.normal.Part.{Part}
use Rattle.ur_rows.specs.Apart.{Assumptions}
use Rattle.ur_rows.specs.Types.{field_type, without}
use Rattle.ur_typed_rules.specs.Tests.{are_apart}
use Rattle.ur_typed_rules.specs.Arguments.{BreaksFields}
use Rattle.ur_typed_rules.specs.Faults.{Fault, twice, not_of_type}
use Rattle.ur_typed_rules.specs.Repeats.{IsTwiceIn}
use Rattle.ur_typed_rules.specs.Rules.{row_of}

-- the type of a field, where the type is that of a record with it
abbrev pub field_in : Label → NormalType → Option NormalType
field_in l t = option_and_then (field_type l) (row_of t)

-- the record's row without the field
abbrev pub row_cut : Label → NormalType → Option (List Part)
row_cut l t = option_and_then (λ r. option_map (λ u. without l r) (field_type l r)) (row_of t)

-- the type is not that of a record with the field
pub data BreaksField (names : List (List ℕ)) (l : Label) (t : NormalType) : Fault → Type 0 where
  of_no_record : row_of t ≡ None → BreaksField names l t (not_of_type names t (codes "a record"))
  without_field : {r : List Part} → row_of t ≡ Some r → field_type l r ≡ None → BreaksField names l t (not_of_type names t (codes "the field"))

-- the fields of a record with these literal names are not apart
pub data BreaksRecord (known : Assumptions) (names : List (Option (List ℕ))) (r : List Part) : Fault → Type 0 where
  named_twice : {name : List ℕ} → IsTwiceIn name names → are_apart known r ≡ false → BreaksRecord known names r (twice name)
  met_there : {f : Fault} → BreaksFields known r f → BreaksRecord known names r f
