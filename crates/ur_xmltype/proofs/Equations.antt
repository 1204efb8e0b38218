-- The definitions at the constructors that code matches and makes.
use Rattle.std.proofs.Common.{◌≡◌, ◌∙◌, refl, ap, List, [], ◌∷◌, Some}
use Rattle.ur_base.specs.Shape.{Shape, count}
use Rattle.ur_syntax.specs.declared.xml.Tag.{Tag as WrittenTag}
use Rattle.ur_syntax.specs.declared.xml.Attr.{Attr}
use Rattle.ur_syntax.specs.declared.xml.XmlPart.{XmlPart}
use Rattle.ur_syntax.specs.declared.xml.XmlForm.{Row_of-XmlPart, more_of-XmlPart, items-the_row-XmlPart}
use Rattle.ur_syntax.specs.declared.xml.XmlForm.TheBlock as X
use Rattle.ur_syntax.specs.declared.xml.XmlForm.TheVariants as form
use Rattle.ur_rows.specs.declared.normal.Part.{Part}
use Rattle.ur_rows.specs.declared.normal.NormalType.TheVariants as ty
use Rattle.ur_rows.proofs.Shapes.{form-made}
use Rattle.ur_rows.proofs.Order.{parts-row}
use Rattle.ur_tree.specs.Places.{sort_of, fields, fields_found}
use Rattle.ur_xmltype.specs.Literal.{row_of_parts}

pub sort_of-Form : (r : List Part) → sort_of (ty.Form r) ≡ Some fields
sort_of-Form r = ap sort_of (form-made r)

pub fields_found-Form : (r : List Part) → fields_found (ty.Form r) ≡ Some r
fields_found-Form r = ap fields_found (form-made r) ∙ ap (λ q. Some q) (parts-row r)

-- parts as a row, and back
pub items-row_of_parts : (xs : List XmlPart) → items-the_row-XmlPart (count (row_of_parts xs).0) (row_of_parts xs).1 ≡ xs
items-row_of_parts [] = refl
items-row_of_parts (x ∷ xs) = ap (λ ys. x ∷ ys) (items-row_of_parts xs)

row-made : (xs : List XmlPart) → ◌≡◌ {A = (s : Shape) × Row_of-XmlPart (count s)} (X.shape-the_row-XmlPart-0 xs, X.hidden-the_row-XmlPart-0 xs) (row_of_parts xs)
unfolding X.hidden-the_row-XmlPart-0 X.shape-the_row-XmlPart-0 denote.Hole.Carrier.hidden
row-made [] = refl
row-made (x ∷ xs) = ap (λ (k : (s : Shape) × Row_of-XmlPart (count s)). (tt ∷ k.0, more_of-XmlPart x.span x.form k.1)) (row-made xs)

-- an element as the definitions have it
pub element-made : (t : WrittenTag) (attrs : List Attr) (xs : List XmlPart) → form.Element t attrs xs ≡ form.Element' t attrs (row_of_parts xs).0 (row_of_parts xs).1
unfolding X.shape-the_row-XmlPart-0
element-made t attrs xs = ap (λ (k : (s : Shape) × Row_of-XmlPart (count s)). form.Element' t attrs k.0 k.1) (row-made xs)

pub ruleset forms = (form-made, sort_of-Form, fields_found-Form)
