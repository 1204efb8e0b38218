-- The text of a type at the plain constructors, one equation for each that holds others.
use Rattle.std.proofs.Common.{◌≡◌, ◌∙◌, ◌++◌, List, codes, refl, ap}
use mathlib.Core.Former.{Count}
use denote.Hole.Carrier
use Rattle.ur_values.specs.declared.types.ValueType.{ValueType, Row_of-TypeField, end_of-TypeField, more_of-TypeField, items-the_row-TypeField, items_hidden-the_row-TypeField-0}
use Rattle.ur_values.specs.declared.types.ValueType.TheBlock as block
use Rattle.ur_values.specs.declared.types.ValueType.TheVariants as ty
use Rattle.ur_values.specs.declared.types.TypeField.{TypeField}
use Rattle.ur_values.specs.Texts.{Names, around, field_text, type_text, row_text, fields_text}

-- a row of fields is the list of them
row_is : (names : Names) (n : Count) (row : Row_of-TypeField n) → row_text names row ≡ fields_text names (items-the_row-TypeField n row)
row_is names n end_of-TypeField = refl
row_is names n (more_of-TypeField name t rest) = ap (λ text. field_text names name (type_text names t) ++ text) (row_is names _ rest)

-- the fields of a type, as a row
abbrev row_of : ValueType → (n : Count) × Row_of-TypeField n
row_of (ty.Record' _ row) = (_, row)
row_of (ty.Form' _ row) = (_, row)
row_of _ = (_, end_of-TypeField)

pub type_text-Record : (names : Names) (fields : List TypeField) → type_text names (ty.Record fields) ≡ codes "{" ++ (fields_text names fields ++ codes " }")
type_text-Record names fields =
    let row = row_of (ty.Record fields) in
    ap (λ text. codes "{" ++ (text ++ codes " }")) (row_is names row.0 row.1 ∙ ap (fields_text names) (items_hidden-the_row-TypeField-0 fields))

pub type_text-Form : (names : Names) (fields : List TypeField) → type_text names (ty.Form fields) ≡ codes "form {" ++ (fields_text names fields ++ codes " }")
type_text-Form names fields =
    let row = row_of (ty.Form fields) in
    ap (λ text. codes "form {" ++ (text ++ codes " }")) (row_is names row.0 row.1 ∙ ap (fields_text names) (items_hidden-the_row-TypeField-0 fields))

pub type_text-Opt : (names : Names) (t : ValueType) → type_text names (ty.Opt t) ≡ codes "option " ++ around t (type_text names t)
unfolding block.hidden-the_row-ValueType-1 Carrier.hidden
type_text-Opt names t = refl

pub type_text-Many : (names : Names) (t : ValueType) → type_text names (ty.Many t) ≡ codes "list " ++ around t (type_text names t)
unfolding block.hidden-the_row-ValueType-1 Carrier.hidden
type_text-Many names t = refl

pub ruleset types = (type_text-Record, type_text-Form, type_text-Opt, type_text-Many)
