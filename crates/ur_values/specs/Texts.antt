-- How types are written.
use Rattle.std.specs.Prelude.{ℕ, Bool, true, false, if◌then◌else◌, List, [], ◌++◌, codes, flat_map, slice_index_or}
use Rattle.std.specs.Fmt.{decimal}
use Rattle.ur_base.specs.declared.names.Name.{Name}
use Rattle.ur_values.specs.declared.types.ValueType.{ValueType, Row_of-ValueType, end_of-ValueType, more_of-ValueType, Row_of-TypeField, end_of-TypeField, more_of-TypeField}
use Rattle.ur_values.specs.declared.types.ValueType.TheVariants as ty
use Rattle.ur_values.specs.declared.types.TypeField.{TypeField}

-- the names of fields, by number
abbrev pub Names : Type 0
Names = List (List ℕ)

-- one word, or in braces
abbrev pub is_plain : ValueType → Bool
is_plain (ty.Opt' _ of) = false
is_plain (ty.Many' _ of) = false
is_plain (ty.Datatype d) = false
is_plain (ty.Form' _ fields) = false
is_plain _ = true

-- in parentheses unless the type is plain
abbrev pub around : ValueType → List ℕ → List ℕ
around t text = if is_plain t then text else codes "(" ++ text ++ codes ")"

-- ` Name : type;`
abbrev pub field_text : Names → Name → List ℕ → List ℕ
field_text names name text = codes " " ++ slice_index_or names name.0 [] ++ codes " : " ++ text ++ codes ";"

-- A datatype is written by its number.
abbrev mutual
  pub type_text : Names → ValueType → List ℕ
  type_text names ty.Int = codes "int"
  type_text names ty.Str = codes "string"
  type_text names ty.Bool = codes "bool"
  type_text names (ty.Record' _ fields) = codes "{" ++ row_text names fields ++ codes " }"
  type_text names (ty.Opt' _ of) = codes "option " ++ held_text names of
  type_text names (ty.Many' _ of) = codes "list " ++ held_text names of
  type_text names (ty.Datatype d) = codes "datatype " ++ decimal d
  type_text names ty.Page = codes "page"
  type_text names ty.Xbody = codes "xbody"
  type_text names ty.Xtable = codes "xtable"
  type_text names ty.Xtr = codes "xtr"
  type_text names (ty.Form' _ fields) = codes "form {" ++ row_text names fields ++ codes " }"

  pub held_text : Names → {n : _} → Row_of-ValueType n → List ℕ
  held_text names end_of-ValueType = []
  held_text names (more_of-ValueType t rest) = around t (type_text names t)

  pub row_text : Names → {n : _} → Row_of-TypeField n → List ℕ
  row_text names end_of-TypeField = []
  row_text names (more_of-TypeField name t rest) = field_text names name (type_text names t) ++ row_text names rest

-- fields one after the other
abbrev pub fields_text : Names → List TypeField → List ℕ
fields_text names = flat_map (λ f. field_text names f.name (type_text names f.of))
