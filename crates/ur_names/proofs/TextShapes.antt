-- What stands in the forms of SQL and XML that the code matches.
use Rattle.std.proofs.Common.{◌≡◌, refl, ap, ap₂, sym, ◌∙◌, List, [], ◌∷◌, ◌++◌, flat_map}
use mathlib.Core.Former.{Count}
use Rattle.ur_base.specs.Shape.{Shape, count}
use Rattle.ur_base.specs.declared.refusal.Span.{Span}
use Rattle.ur_syntax.specs.declared.sql.SqlBinary.{SqlBinary}
use Rattle.ur_syntax.specs.declared.sql.SqlExp.{SqlExp}
use Rattle.ur_syntax.specs.declared.sql.SqlForm.{SqlForm}
use Rattle.ur_syntax.specs.declared.sql.SqlForm.TheVariants as form
use Rattle.ur_syntax.specs.declared.sql.SqlForm.TheBlock as F
use Rattle.ur_syntax.specs.declared.xml.Tag.{Tag}
use Rattle.ur_syntax.specs.declared.xml.Attr.{Attr}
use Rattle.ur_syntax.specs.declared.xml.XmlPart.{XmlPart}
use Rattle.ur_syntax.specs.declared.xml.XmlForm.{XmlForm, Row_of-XmlPart, end_of-XmlPart as end, more_of-XmlPart as more, items-the_row-XmlPart, items_hidden-the_row-XmlPart-0}
use Rattle.ur_syntax.specs.declared.xml.XmlForm.TheVariants as xml
use Rattle.ur_names.specs.declared.event.Mark.{Mark}
use Rattle.ur_names.specs.Skeletons.{in_sql, in_sql_exp, in_part, in_parts, in_xml_part, in_tag_field, in_attr}

binary-made : (o : SqlBinary) (x y : SqlExp) → in_sql (form.Binary o x y) ≡ in_sql_exp x ++ in_sql_exp y
unfolding F.hidden-the_row-SqlExp-0 denote.Hole.Carrier.hidden
binary-made o x y = refl

not-made : (x : SqlExp) → in_sql (form.Not x) ≡ in_sql_exp x
unfolding F.hidden-the_row-SqlExp-0 denote.Hole.Carrier.hidden
not-made x = refl

negative-made : (x : SqlExp) → in_sql (form.Negative x) ≡ in_sql_exp x
unfolding F.hidden-the_row-SqlExp-0 denote.Hole.Carrier.hidden
negative-made x = refl

null-made : (x : SqlExp) → in_sql (form.IsNull x) ≡ in_sql_exp x
unfolding F.hidden-the_row-SqlExp-0 denote.Hole.Carrier.hidden
null-made x = refl

not-null-made : (x : SqlExp) → in_sql (form.IsNotNull x) ≡ in_sql_exp x
unfolding F.hidden-the_row-SqlExp-0 denote.Hole.Carrier.hidden
not-null-made x = refl

some-made : (x : SqlExp) → in_sql (form.Some x) ≡ in_sql_exp x
unfolding F.hidden-the_row-SqlExp-0 denote.Hole.Carrier.hidden
some-made x = refl

pub in-binary : {f : SqlForm} {o : SqlBinary} {a b x y : SqlExp} → f ≡ form.Binary o a b → x ≡ a → y ≡ b → in_sql f ≡ in_sql_exp x ++ in_sql_exp y
in-binary {o = o} {x = x} {y = y} e g h = ap in_sql (e ∙ ap₂ (form.Binary o) (sym g) (sym h)) ∙ binary-made o x y

pub in-not : {f : SqlForm} {a x : SqlExp} → f ≡ form.Not a → x ≡ a → in_sql f ≡ in_sql_exp x
in-not {x = x} e g = ap in_sql (e ∙ ap form.Not (sym g)) ∙ not-made x

pub in-negative : {f : SqlForm} {a x : SqlExp} → f ≡ form.Negative a → x ≡ a → in_sql f ≡ in_sql_exp x
in-negative {x = x} e g = ap in_sql (e ∙ ap form.Negative (sym g)) ∙ negative-made x

pub in-null : {f : SqlForm} {a x : SqlExp} → f ≡ form.IsNull a → x ≡ a → in_sql f ≡ in_sql_exp x
in-null {x = x} e g = ap in_sql (e ∙ ap form.IsNull (sym g)) ∙ null-made x

pub in-not-null : {f : SqlForm} {a x : SqlExp} → f ≡ form.IsNotNull a → x ≡ a → in_sql f ≡ in_sql_exp x
in-not-null {x = x} e g = ap in_sql (e ∙ ap form.IsNotNull (sym g)) ∙ not-null-made x

pub in-some : {f : SqlForm} {a x : SqlExp} → f ≡ form.Some a → x ≡ a → in_sql f ≡ in_sql_exp x
in-some {x = x} e g = ap in_sql (e ∙ ap form.Some (sym g)) ∙ some-made x

-- ---- XML

parts-are : (n : _) (row : Row_of-XmlPart n) → in_parts row ≡ flat_map in_xml_part (items-the_row-XmlPart n row)
parts-are n end = refl
parts-are n (more p x rest) = ap (λ ms. in_part p x ++ ms) (parts-are _ rest)

abbrev row_of : XmlForm → (n : Count) × Row_of-XmlPart n
row_of (xml.Element' tag attrs _ row) = (_, row)
row_of _ = (_, end)

element-made : (p : Span) (t : Tag) (bs : List Attr) (xs : List XmlPart) → in_part p (xml.Element t bs xs) ≡ in_tag_field p t.field ++ flat_map in_attr bs ++ flat_map in_xml_part xs
element-made p t bs xs =
    let row = row_of (xml.Element t bs xs) in
    ap (λ ms. in_tag_field p t.field ++ flat_map in_attr bs ++ ms) (parts-are row.0 row.1 ∙ ap (flat_map in_xml_part) (items_hidden-the_row-XmlPart-0 xs))

pub in-element : {f : XmlForm} {t : Tag} {cs bs : List Attr} {xs ys : List XmlPart} (p : Span) → f ≡ xml.Element t cs xs → bs ≡ cs → ys ≡ xs →
    in_part p f ≡ in_tag_field p t.field ++ flat_map in_attr bs ++ flat_map in_xml_part ys
in-element {t = t} {bs = bs} {ys = ys} p e g h = ap (in_part p) (e ∙ ap₂ (xml.Element t) (sym g) (sym h)) ∙ element-made p t bs ys
