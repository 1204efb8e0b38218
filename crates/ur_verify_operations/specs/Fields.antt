-- Fields of records and forms, as types hold them.
use Rattle.std.specs.Prelude.{ℕ, suc, ◌==◌, not, Bool, if◌then◌else◌, nat_lt, List, [], ◌∷◌, filter, Option, Some, None, is_none}
use Rattle.std.specs.List.{list_all}
use Rattle.ur_base.specs.declared.names.Name.{Name}
use Rattle.ur_values.specs.declared.types.ValueType.{ValueType, ValueType-F, out-ValueType}
use Rattle.ur_values.specs.declared.types.ValueType.TheOpen as open_type
use Rattle.ur_values.specs.declared.types.TypeField.{TypeField}

-- the type of the field with this name
abbrev pub type_at : Name → List TypeField → Option ValueType
type_at name [] = None
type_at name (f ∷ fs) = if f.name.0 == name.0 then Some f.of else type_at name fs

-- the number of fields at the front whose names are not greater
abbrev pub place_of : Name → List TypeField → ℕ
place_of name [] = 0
place_of name (f ∷ fs) = if nat_lt name.0 f.name.0 then 0 else suc (place_of name fs)

-- a field more, in its place by name
abbrev pub with_type : TypeField → List TypeField → List TypeField
with_type f [] = f ∷ []
with_type f (g ∷ gs) = if nat_lt f.name.0 g.name.0 then f ∷ g ∷ gs else g ∷ with_type f gs

-- the fields of both
abbrev pub types_together : List TypeField → List TypeField → List TypeField
types_together [] gs = gs
types_together (f ∷ fs) gs = with_type f (types_together fs gs)

-- the fields but the one with this name
abbrev pub without_type : Name → List TypeField → List TypeField
without_type name = filter (λ f. not (f.name.0 == name.0))

-- no name in both
abbrev pub are_apart : List TypeField → List TypeField → Bool
are_apart fs gs = list_all (λ f. is_none (type_at f.name gs)) fs

-- each name with its type
abbrev pub named : List Name → List ValueType → List TypeField
named [] ts = []
named (n ∷ ns) [] = []
named (n ∷ ns) (t ∷ ts) = (record { name = n; of = t }) ∷ named ns ts

-- ---- XML in bodies and forms

abbrev pub OpenType : Type 0
OpenType = ValueType-F ValueType TypeField

abbrev pub add_open : OpenType → List TypeField → Option (List TypeField)
add_open open_type.Xbody gs = Some gs
add_open (open_type.Form fs) gs = if are_apart fs gs then Some (types_together fs gs) else None
add_open _ gs = None

-- a part before others that have these fields
abbrev pub add_part : ValueType → List TypeField → Option (List TypeField)
add_part t gs = add_open (out-ValueType t) gs

abbrev pub add_part_to : ValueType → Option (List TypeField) → Option (List TypeField)
add_part_to t (Some gs) = add_part t gs
add_part_to t None = None

-- the fields of these parts before others
abbrev pub flow_before : List ValueType → List TypeField → Option (List TypeField)
flow_before [] gs = Some gs
flow_before (t ∷ ts) gs = add_part_to t (flow_before ts gs)

-- ---- fields as pairs

abbrev pub pair : TypeField → Name × ValueType
pair f = (f.name, f.of)
