-- Parts of the table of operations.
use Rattle.std.specs.Prelude.{◌≡◌, Bool, List, [], ◌∷◌, ◌++◌}
use Rattle.ur_base.specs.declared.names.Name.{Name}
use Rattle.ur_values.specs.declared.value.Tag.{Tag}
use Rattle.ur_values.specs.declared.value.Tag.TheVariants as tag
use Rattle.ur_values.specs.declared.types.ValueType.{ValueType}
use Rattle.ur_values.specs.declared.types.ValueType.TheVariants as ty
use Rattle.ur_terms.specs.Types.{record_type, IsScalar, IsUnitForm}
use Rattle.ur_verify_operations.specs.declared.markup.Place.{Place}
use Rattle.ur_verify_operations.specs.declared.markup.Place.TheVariants as place

-- one int, string or bool is shown as this type
abbrev pub Shows : ValueType → List ValueType → ValueType → Type 0
Shows gives ts r = (a : ValueType) × (ts ≡ a ∷ []) × IsScalar a × (r ≡ gives)

-- where an element with this tag stands
abbrev pub place_in : Tag → Place
place_in tag.Head = place.Own ty.Page ty.Page
place_in tag.Title = place.Own ty.Page ty.Xbody
place_in tag.Body = place.Own ty.Page ty.Xbody
place_in tag.Table = place.Own ty.Xbody ty.Xtable
place_in tag.Tr = place.Own ty.Xtable ty.Xtr
place_in tag.Td = place.Own ty.Xtr ty.Xbody
place_in tag.Th = place.Own ty.Xtr ty.Xbody
place_in tag.Form = place.AroundForm
place_in _ = place.InFlow

-- a record, of no fields exactly where this is so
abbrev pub IsLast : Bool → ValueType → Type 0
IsLast unit t = (last : List (Name × ValueType)) × (t ≡ record_type last) × IsUnitForm unit last

-- the arguments of a route but its last, which is a record, of no fields exactly where this is so
abbrev pub Submits : Bool → List ValueType → List ValueType → Type 0
Submits unit ts params = (last : List (Name × ValueType)) × (params ≡ ts ++ record_type last ∷ []) × IsUnitForm unit last
