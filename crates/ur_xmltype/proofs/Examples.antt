-- Tags at their places, and small literals.
use Rattle.std.proofs.Common.{◌≡◌, refl, ℕ, true, false, List, [], ◌∷◌, Some, None}
use Rattle.std.specs.Prelude.{codes}
use Rattle.ur_base.specs.declared.refusal.Span.{Span}
use Rattle.ur_syntax.specs.declared.xml.XmlPart.{XmlPart}
use Rattle.ur_syntax.specs.declared.xml.XmlForm.{XmlForm, end_of-XmlPart as end}
use Rattle.ur_syntax.specs.declared.xml.XmlForm.TheVariants as form
use Rattle.ur_syntax.specs.declared.xml.Tag.{Tag as WrittenTag}
use Rattle.ur_syntax.specs.declared.xml.TagField.TheVariants as tag_field
use Rattle.ur_syntax.specs.declared.xml.Attr.{Attr}
use Rattle.ur_syntax.specs.declared.xml.AttrValue.TheVariants as attr_value
use Rattle.ur_values.specs.declared.value.Tag.TheVariants as tag
use Rattle.ur_values.specs.declared.value.FieldKind.TheVariants as field_kind
use Rattle.ur_rows.specs.declared.normal.Label.TheVariants as label
use Rattle.ur_tree.specs.Places.{in_body, in_table, in_row, in_form, in_fields, page, table}
use Rattle.ur_xmltype.specs.Tags.{node_with, element, input, submit}
use Rattle.ur_xmltype.specs.Literal.{text_at, first_of, fault_of_sort}

abbrev word : List ℕ → WrittenTag
word w = record { word = w; field = tag_field.None }

abbrev with_value : List ℕ → Attr
with_value x = record { name = x; value = attr_value.Exp 0 }

-- a row stands in a table and not in a body
row_in_table : node_with None in_table (word (codes "tr")) [] false ≡ Some (element tag.Tr in_row)
row_in_table = refl

row_in_body : node_with None in_body (word (codes "tr")) [] false ≡ None
row_in_body = refl

-- a field has a label and stands in a form; a password may have a value, a checkbox not
a_password : node_with (Some (label.Literal (codes "A"))) in_form (word (codes "password")) (with_value (codes "value") ∷ []) true
    ≡ Some (input field_kind.Password (label.Literal (codes "A")) (Some (attr_value.Exp 0)))
a_password = refl

a_checkbox : node_with (Some (label.Literal (codes "A"))) in_form (word (codes "checkbox")) (with_value (codes "value") ∷ []) true ≡ None
a_checkbox = refl

no_label : node_with None in_form (word (codes "textbox")) [] true ≡ None
no_label = refl

-- a button stands in a form of the literal itself
a_button : node_with None in_form (word (codes "submit")) (with_value (codes "action") ∷ []) true ≡ Some (submit 0 None)
a_button = refl

a_button_outside : node_with None in_fields (word (codes "submit")) (with_value (codes "action") ∷ []) true ≡ None
a_button_outside = refl

-- blank text is dropped in a table, other text does not stand there
blank_in_table : text_at in_table (32 ∷ 10 ∷ []) ≡ Some false
blank_in_table = refl

text_in_table : text_at in_table (codes "x") ≡ None
text_in_table = refl

abbrev at : Span
at = record { file = 1; «from» = 0; to = 0 }

abbrev a_part : XmlForm → XmlPart
a_part x = record { span = at; form = x }

abbrev an_element : List ℕ → XmlPart
an_element w = a_part (form.Element' (word w) [] [] end)

-- the first element gives the sort
cells_first : first_of (a_part (form.Text (32 ∷ [])) ∷ an_element (codes "tr") ∷ []) ≡ table
cells_first = refl

-- a head stands before the body and once
a_frame : fault_of_sort page (an_element (codes "head") ∷ a_part (form.Text (10 ∷ [])) ∷ an_element (codes "body") ∷ []) ≡ None
a_frame = refl

head_behind : fault_of_sort page (an_element (codes "body") ∷ an_element (codes "head") ∷ []) ≡ Some (codes "head")
head_behind = refl

no_body : fault_of_sort page (an_element (codes "head") ∷ []) ≡ Some (codes "nothing")
no_body = refl
