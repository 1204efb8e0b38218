-- Tags as they are written, and what they are at a place.
use Rattle.std.specs.Prelude.{ℕ, ◌&&◌, Bool, true, false, if◌then◌else◌, List, [], ◌∷◌, codes, Option, Some, None, is_none, option_map, option_and_then, bytes_eq}
use Rattle.std.specs.List.{list_any, list_all}
use Rattle.ur_syntax.specs.declared.con.FieldName.TheVariants as field_name
use Rattle.ur_syntax.specs.declared.xml.Tag.{Tag as WrittenTag}
use Rattle.ur_syntax.specs.declared.xml.TagField.{TagField}
use Rattle.ur_syntax.specs.declared.xml.TagField.TheVariants as tag_field
use Rattle.ur_syntax.specs.declared.xml.Attr.{Attr}
use Rattle.ur_syntax.specs.declared.xml.AttrValue.{AttrValue}
use Rattle.ur_syntax.specs.declared.xml.AttrValue.TheVariants as attr_value
use Rattle.ur_values.specs.declared.value.Tag.{Tag}
use Rattle.ur_values.specs.declared.value.Tag.TheVariants as tag
use Rattle.ur_values.specs.declared.value.FieldKind.{FieldKind}
use Rattle.ur_values.specs.declared.value.FieldKind.TheVariants as field_kind
use Rattle.ur_tags.specs.Show.{tag_word}
use Rattle.ur_rows.specs.declared.normal.Label.{Label}
use Rattle.ur_rows.specs.Normal.{Known, label_of}
use Rattle.ur_tree.specs.Places.{Place, in_form, is_flow, holds_fields, inside, may_have_value}

abbrev pub all_tags : List Tag
all_tags = tag.Head ∷ tag.Title ∷ tag.Body ∷ tag.P ∷ tag.Div ∷ tag.Span ∷ tag.B ∷ tag.I ∷ tag.Em ∷ tag.Strong ∷ tag.H1 ∷ tag.H2 ∷ tag.H3 ∷ tag.H4 ∷ tag.Ul ∷ tag.Ol ∷ tag.Li ∷ tag.Pre ∷ tag.Code ∷ tag.Br ∷ tag.Hr
    ∷ tag.Table ∷ tag.Tr ∷ tag.Td ∷ tag.Th ∷ tag.Form ∷ []

abbrev pub tag_in : List ℕ → List Tag → Option Tag
tag_in w [] = None
tag_in w (g ∷ rest) = if bytes_eq (tag_word g) w then Some g else tag_in w rest

-- the tag of an element with this word
abbrev pub tag_of : List ℕ → Option Tag
tag_of w = tag_in w all_tags

-- the kind of field with this word
abbrev pub field_of : List ℕ → Option FieldKind
field_of w =
    if bytes_eq w (codes "textbox") then Some field_kind.Textbox else
    if bytes_eq w (codes "password") then Some field_kind.Password else
    if bytes_eq w (codes "textarea") then Some field_kind.Textarea else
    if bytes_eq w (codes "checkbox") then Some field_kind.Checkbox else None

abbrev pub is_bare : TagField → Bool
is_bare tag_field.None = true
is_bare _ = false

-- the field that a tag names, a variable being read in the constructors in scope
abbrev pub label_at : Known → TagField → Option Label
label_at known tag_field.None = None
label_at known (tag_field.Literal a) = Some (label_of known (field_name.Literal a))
label_at known (tag_field.Variable x) = Some (label_of known (field_name.Variable x))

abbrev pub if_so : {A : Type 0} → Bool → Option A → Option A
if_so true o = o
if_so false o = None

-- ---- attributes

abbrev pub has_name : List ℕ → Attr → Bool
has_name x a = bytes_eq a.name x

-- the first name that a later attribute has too
abbrev pub repeated : List Attr → Option (List ℕ)
repeated [] = None
repeated (a ∷ rest) = if list_any (has_name a.name) rest then Some a.name else repeated rest

abbrev pub is_named : List (List ℕ) → Attr → Bool
is_named names a = list_any (bytes_eq a.name) names

-- each attribute has one of these names
abbrev pub are_named : List (List ℕ) → List Attr → Bool
are_named names attrs = list_all (is_named names) attrs

abbrev pub value_of : List ℕ → List Attr → Option AttrValue
value_of x [] = None
value_of x (a ∷ rest) = if bytes_eq a.name x then Some a.value else value_of x rest

abbrev pub expression_of : AttrValue → Option ℕ
expression_of (attr_value.Exp n) = Some n
expression_of (attr_value.Text s) = None

-- the number of the expression that an attribute of this name has
abbrev pub expression_at : List ℕ → List Attr → Option ℕ
expression_at x attrs = option_and_then expression_of (value_of x attrs)

abbrev pub link_word : List ℕ
link_word = codes "link"

abbrev pub action_word : List ℕ
action_word = codes "action"

abbrev pub value_word : List ℕ
value_word = codes "value"

-- ---- tags at a place

-- An element with what it holds; a form; a link or a button with the number of its target; a field with its label.
pub data Node : Type 0 where
  element : Tag → Place → Node
  form : Node
  link : ℕ → Node
  input : FieldKind → Label → Option AttrValue → Node
  submit : ℕ → Option AttrValue → Node

abbrev pub element_node : Tag → Place → Node
element_node tag.Form q = form
element_node g q = element g q

-- no field and no attributes
abbrev pub is_plain : TagField → List Attr → Bool
is_plain f attrs = is_bare f && are_named [] attrs

abbrev pub element_at : Place → TagField → List Attr → Tag → Option Node
element_at p f attrs g = if_so (is_plain f attrs) (option_map (element_node g) (inside p g))

abbrev pub may_link : Place → TagField → List Attr → Bool
may_link p f attrs = is_flow p && (is_bare f && are_named (link_word ∷ []) attrs)

abbrev pub link_at : Place → TagField → List Attr → Option Node
link_at p f attrs = if_so (may_link p f attrs) (option_map link (expression_at link_word attrs))

abbrev pub field_attributes : FieldKind → List (List ℕ)
field_attributes k = if may_have_value k then value_word ∷ [] else []

abbrev pub may_input : Place → FieldKind → List Attr → Bool
may_input p k attrs = holds_fields p && are_named (field_attributes k) attrs

abbrev pub input_at : Option Label → Place → List Attr → FieldKind → Option Node
input_at l p attrs k = if_so (may_input p k attrs) (option_map (λ x. input k x (value_of value_word attrs)) l)

abbrev pub is_in_form : Place → Bool
is_in_form in_form = true
is_in_form _ = false

abbrev pub may_submit : Place → TagField → List Attr → Bool
may_submit p f attrs = is_in_form p && (is_bare f && are_named (action_word ∷ value_word ∷ []) attrs)

abbrev pub submit_at : Place → TagField → List Attr → Option Node
submit_at p f attrs = if_so (may_submit p f attrs) (option_map (λ n. submit n (value_of value_word attrs)) (expression_at action_word attrs))

-- a field or a button
abbrev pub leaf_at : Option Label → Place → WrittenTag → List Attr → Option FieldKind → Option Node
leaf_at l p t attrs (Some k) = input_at l p attrs k
leaf_at l p t attrs None = if_so (bytes_eq t.word (codes "submit")) (submit_at p t.field attrs)

abbrev pub node_by : Option Label → Place → WrittenTag → List Attr → Bool → Option Tag → Option Node
node_by l p t attrs bare (Some g) = element_at p t.field attrs g
node_by l p t attrs bare None = if bytes_eq t.word (codes "a") then link_at p t.field attrs else if_so bare (leaf_at l p t attrs (field_of t.word))

-- What a tag is at a place, no two attributes of which have one name: `bare` says that it has no parts, and its field has this label.
-- None where it may not stand there so.
abbrev pub node_with : Option Label → Place → WrittenTag → List Attr → Bool → Option Node
node_with l p t attrs bare = if_so (is_none (repeated attrs)) (node_by l p t attrs bare (tag_of t.word))

-- what a tag is at a place, over the constructors in scope
abbrev pub node_at : Known → Place → WrittenTag → List Attr → Bool → Option Node
node_at known p t attrs bare = node_with (label_at known t.field) p t attrs bare

-- where the parts of a tag stand
abbrev pub inner_place : Place → Node → Place
inner_place p (element g q) = q
inner_place p form = in_form
inner_place p _ = p
