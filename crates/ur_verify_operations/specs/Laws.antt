-- Laws of types.
use Rattle.std.specs.Prelude.{◌≡◌, List}
use Rattle.ur_values.specs.declared.value.Tag.{Tag}
use Rattle.ur_values.specs.declared.types.ValueType.{ValueType}
use Rattle.ur_terms.specs.Types.{Holds, ElementStands}
use Rattle.ur_verify_operations.specs.declared.markup.Place.TheVariants as place
use Rattle.ur_verify_operations.specs.Parts.{place_in}

-- an element in a body or form is of the type that holds its parts
abbrev pub ElementsHold : Type 0
ElementsHold = (t : Tag) (ts : List ValueType) (r : ValueType) → place_in t ≡ place.InFlow → ElementStands t ts r → Holds ts r
