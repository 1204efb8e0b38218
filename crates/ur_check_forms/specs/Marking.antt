-- What the buttons of a form want.
use Rattle.std.specs.Prelude.{◌≡◌, ℕ, false, List, Contains}
use Rattle.ur_rows.specs.declared.normal.NormalType.{NormalType}
use Rattle.ur_rows.specs.declared.normal.Part.{Part}
use Rattle.ur_rows.specs.Apart.{Assumptions}
use Rattle.ur_rows.specs.Made.{record_of}
use Rattle.ur_typed_rules.specs.Tests.{same_type}
use Rattle.ur_typed_rules.specs.Arguments.{BreaksFields}
use Rattle.ur_typed_rules.specs.Faults.{Fault, types_differ}

-- a button's function takes another record than the one of the form's fields
pub data IsNotTaken (names : List (List ℕ)) (t : NormalType) (wanted : List NormalType) : Fault → Type 0 where
  not_taken : {u : NormalType} → Contains wanted u → same_type t u ≡ false → IsNotTaken names t wanted (types_differ names t u)

-- the fields of a form are not apart, or a button wants another record
pub data BreaksForm (names : List (List ℕ)) (known : Assumptions) (r : List Part) (wanted : List NormalType) : Fault → Type 0 where
  form_meets : {f : Fault} → BreaksFields known r f → BreaksForm names known r wanted f
  form_not_taken : {f : Fault} → IsNotTaken names (record_of r) wanted f → BreaksForm names known r wanted f
