-- The names in the XML that the code matches.
use Rattle.std.proofs.Common.{◌≡◌, refl, ap, sym, ◌∙◌, List, ◌++◌, flat_map}
use mathlib.Core.Former.{Count}
use Rattle.ur_syntax.specs.declared.xml.Tag.{Tag}
use Rattle.ur_syntax.specs.declared.xml.Attr.{Attr}
use Rattle.ur_syntax.specs.declared.xml.XmlPart.{XmlPart}
use Rattle.ur_syntax.specs.declared.xml.XmlForm.{XmlForm, Row_of-XmlPart, end_of-XmlPart as end, more_of-XmlPart as more, items-the_row-XmlPart, items_hidden-the_row-XmlPart-0}
use Rattle.ur_syntax.specs.declared.xml.XmlForm.TheVariants as xml
use Rattle.ur_tree.specs.FieldNames.{of_tag, of_xml_form, of_xml_parts}
use Rattle.ur_check.specs.Parts.{of_xml_part}

parts-are : (n : _) (row : Row_of-XmlPart n) → of_xml_parts row ≡ flat_map of_xml_part (items-the_row-XmlPart n row)
parts-are n end = refl
parts-are n (more p x rest) = ap (λ ms. of_xml_form x ++ ms) (parts-are _ rest)

abbrev row_of : XmlForm → (n : Count) × Row_of-XmlPart n
row_of (xml.Element' tag attrs _ row) = (_, row)
row_of _ = (_, end)

element-made : (t : Tag) (bs : List Attr) (xs : List XmlPart) → of_xml_form (xml.Element t bs xs) ≡ of_tag t.field ++ flat_map of_xml_part xs
element-made t bs xs =
    let row = row_of (xml.Element t bs xs) in
    ap (λ ms. of_tag t.field ++ ms) (parts-are row.0 row.1 ∙ ap (flat_map of_xml_part) (items_hidden-the_row-XmlPart-0 xs))

pub in-element : {f : XmlForm} {t : Tag} {bs : List Attr} {xs ys : List XmlPart} → f ≡ xml.Element t bs xs → ys ≡ xs →
    of_xml_form f ≡ of_tag t.field ++ flat_map of_xml_part ys
in-element {t = t} {bs = bs} {ys = ys} e g = ap of_xml_form (e ∙ ap (xml.Element t bs) (sym g)) ∙ element-made t bs ys
