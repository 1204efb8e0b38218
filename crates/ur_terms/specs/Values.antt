-- Reading a value as what it is, and records.
use Rattle.std.specs.Prelude.{ℕ, ℤ, ◌==◌, not, Bool, true, false, if◌then◌else◌, nat_lt, List, [], ◌∷◌, ◌++◌, filter, find, codes, Option, Some, None, option_map}
use Rattle.std.specs.Fmt.{signed_decimal}
use Rattle.ur_base.specs.declared.names.Name.{Name}
use Rattle.ur_values.specs.declared.value.Value.{Value, Value-F, out-Value}
use Rattle.ur_values.specs.declared.value.Value.TheVariants as v
use Rattle.ur_values.specs.declared.value.Node.{Node}
use Rattle.ur_values.specs.declared.value.Node.TheOpen as open_value
use Rattle.ur_values.specs.declared.value.Call.{Call}

-- a value one level deep, its parts as they are
abbrev pub Open : Type 0
Open = Value-F Node Value Call

abbrev pub as_int : Value → Option ℤ
as_int (v.Int i) = Some i
as_int _ = None

abbrev pub as_bool : Value → Option Bool
as_bool (v.Bool b) = Some b
as_bool _ = None

abbrev pub as_text : Value → Option (List ℕ)
as_text (v.Str t) = Some t
as_text _ = None

abbrev pub open_fields : Open → Option (List (Name × Value))
open_fields (open_value.Row fields) = Some fields
open_fields _ = None

-- the fields of a record
abbrev pub as_fields : Value → Option (List (Name × Value))
as_fields x = open_fields (out-Value x)

abbrev pub open_items : Open → Option (List Value)
open_items (open_value.Many items) = Some items
open_items _ = None

-- the items of a list
abbrev pub as_items : Value → Option (List Value)
as_items x = open_items (out-Value x)

abbrev pub open_nodes : Open → Option (List Node)
open_nodes (open_value.Markup nodes) = Some nodes
open_nodes _ = None

-- the nodes of XML
abbrev pub as_nodes : Value → Option (List Node)
as_nodes x = open_nodes (out-Value x)

abbrev pub append_option : {A : Type 0} → Option (List A) → Option (List A) → Option (List A)
append_option (Some xs) (Some ys) = Some (xs ++ ys)
append_option _ _ = None

-- the nodes of each, one after the other
abbrev pub all_nodes : List Value → Option (List Node)
all_nodes [] = Some []
all_nodes (x ∷ xs) = append_option (as_nodes x) (all_nodes xs)

-- an int in decimal, `True` or `False`, or the text itself
abbrev pub shown : Value → Option (List ℕ)
shown (v.Int i) = Some (signed_decimal i)
shown (v.Bool true) = Some (codes "True")
shown (v.Bool false) = Some (codes "False")
shown (v.Str t) = Some t
shown _ = None

-- ---- records

abbrev pub Fields : Type 0
Fields = List (Name × Value)

-- a field more, in its place by name
abbrev pub with_field : {A : Type 0} → Name × A → List (Name × A) → List (Name × A)
with_field f [] = f ∷ []
with_field f (g ∷ gs) = if nat_lt f.0.0 g.0.0 then f ∷ g ∷ gs else g ∷ with_field f gs

abbrev pub fields_together : {A : Type 0} → List (Name × A) → List (Name × A) → List (Name × A)
fields_together [] gs = gs
fields_together (f ∷ fs) gs = with_field f (fields_together fs gs)

abbrev pub field_at : {A : Type 0} → Name → List (Name × A) → Option A
field_at name fs = option_map (λ f. f.1) (find (λ f. f.0.0 == name.0) fs)

abbrev pub without_field : {A : Type 0} → Name → List (Name × A) → List (Name × A)
without_field name = filter (λ f. not (f.0.0 == name.0))

-- each name with its value, in the order of names
abbrev pub fields_of : {A : Type 0} → List Name → List A → Option (List (Name × A))
fields_of [] [] = Some []
fields_of (name ∷ names) (x ∷ xs) = option_map (with_field (name, x)) (fields_of names xs)
fields_of _ _ = None
