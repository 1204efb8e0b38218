-- Numbers of names, and the types of a row's fields as a list.
use Rattle.std.specs.Prelude.{ℕ, List, flat_map, map}
use Rattle.ur_base.specs.declared.names.Name.{Name}
use Rattle.ur_values.specs.declared.types.TypeField.{TypeField}
use Rattle.ur_terms.specs.Types.{typed_field}
use Rattle.ur_rows.specs.declared.normal.Part.{Part}
use Rattle.ur_source.specs.Reading.{Names, field_type}

-- the name with this number
abbrev pub numbered : ℕ → Name
numbered n = record { 0 = n }

abbrev pub part_field_types : Names → Part → List TypeField
part_field_types names p = map typed_field (field_type names p)

abbrev pub row_field_types : Names → List Part → List TypeField
row_field_types names = flat_map (part_field_types names)
