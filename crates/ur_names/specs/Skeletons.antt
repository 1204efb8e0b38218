-- What stands in the text of a statement and of an XML literal, in reading order.
use Rattle.std.specs.Prelude.{ℕ, List, [], ◌∷◌, ◌++◌, flat_map, Option, Some, None}
use Rattle.ur_base.specs.declared.refusal.Span.{Span}
use Rattle.ur_syntax.specs.declared.sql.DeclName.{DeclName}
use Rattle.ur_syntax.specs.declared.sql.SqlExp.{SqlExp}
use Rattle.ur_syntax.specs.declared.sql.SqlForm.{SqlForm, Row_of-SqlExp, end_of-SqlExp as alone, more_of-SqlExp as its}
use Rattle.ur_syntax.specs.declared.sql.SqlForm.TheVariants as form
use Rattle.ur_syntax.specs.declared.sql.Aggregate.{Aggregate}
use Rattle.ur_syntax.specs.declared.sql.Aggregate.TheVariants as aggregate
use Rattle.ur_syntax.specs.declared.sql.Selected.{Selected}
use Rattle.ur_syntax.specs.declared.sql.Selected.TheVariants as selected
use Rattle.ur_syntax.specs.declared.sql.Selection.{Selection}
use Rattle.ur_syntax.specs.declared.sql.Selection.TheVariants as selection
use Rattle.ur_syntax.specs.declared.sql.FromItem.{FromItem}
use Rattle.ur_syntax.specs.declared.sql.OrderKey.{OrderKey}
use Rattle.ur_syntax.specs.declared.sql.Limit.{Limit}
use Rattle.ur_syntax.specs.declared.sql.Limit.TheVariants as limit
use Rattle.ur_syntax.specs.declared.sql.SqlQuery.{SqlQuery}
use Rattle.ur_syntax.specs.declared.sql.Assignment.{Assignment}
use Rattle.ur_syntax.specs.declared.sql.SqlChange.{SqlChange}
use Rattle.ur_syntax.specs.declared.sql.SqlChange.TheVariants as change
use Rattle.ur_syntax.specs.declared.xml.TagField.{TagField}
use Rattle.ur_syntax.specs.declared.xml.TagField.TheVariants as tag_field
use Rattle.ur_syntax.specs.declared.xml.Attr.{Attr}
use Rattle.ur_syntax.specs.declared.xml.AttrValue.{AttrValue}
use Rattle.ur_syntax.specs.declared.xml.AttrValue.TheVariants as attr_value
use Rattle.ur_syntax.specs.declared.xml.XmlForm.{XmlForm, Row_of-XmlPart, end_of-XmlPart as end, more_of-XmlPart as more}
use Rattle.ur_syntax.specs.declared.xml.XmlForm.TheVariants as xml
use Rattle.ur_syntax.specs.declared.xml.XmlPart.{XmlPart}
use Rattle.ur_names.specs.declared.event.Sort.{Sort}
use Rattle.ur_names.specs.declared.event.Sort.TheVariants as sort
use Rattle.ur_names.specs.declared.event.Event.{Event}
use Rattle.ur_names.specs.declared.event.Mark.{Mark}
use Rattle.ur_names.specs.declared.event.Mark.TheVariants as mark
use Rattle.ur_names.specs.Cons.{use_of}

-- the name of a table, sequence or cookie
abbrev pub in_name : Sort → DeclName → Event
in_name s x = use_of s x.span x.«module» x.name

abbrev pub mark_of : Sort → Span → Option (List ℕ) → List ℕ → Mark
mark_of s p None x = mark.Own s p x
mark_of s p (Some m) x = mark.Member s p m x

abbrev pub in_table : DeclName → List Mark
in_table x = mark_of sort.Table x.span x.«module» x.name ∷ []

abbrev pub if_there : {A : Type 0} → (A → List Mark) → Option A → List Mark
if_there f None = []
if_there f (Some x) = f x

abbrev pub in_sql : SqlForm → List Mark
in_sql (form.Binary' o _ (its p a alone) _ (its q b alone)) = in_sql a ++ in_sql b
in_sql (form.Not' _ (its p a alone)) = in_sql a
in_sql (form.Negative' _ (its p a alone)) = in_sql a
in_sql (form.IsNull' _ (its p a alone)) = in_sql a
in_sql (form.IsNotNull' _ (its p a alone)) = in_sql a
in_sql (form.Some' _ (its p a alone)) = in_sql a
in_sql (form.Anti n) = mark.Splice n ∷ []
in_sql _ = []

abbrev pub in_sql_exp : SqlExp → List Mark
in_sql_exp e = in_sql e.form

abbrev pub in_aggregate : Aggregate → List Mark
in_aggregate aggregate.Count = []
in_aggregate (aggregate.Sum e) = in_sql_exp e
in_aggregate (aggregate.Min e) = in_sql_exp e
in_aggregate (aggregate.Max e) = in_sql_exp e

abbrev pub in_selected : Selected → List Mark
in_selected (selected.Column e) = in_sql_exp e
in_selected (selected.Named e a) = in_sql_exp e
in_selected (selected.Aggregate p g a) = in_aggregate g

abbrev pub in_selection : Selection → List Mark
in_selection selection.All = []
in_selection (selection.Items items) = flat_map in_selected items

abbrev pub in_item : FromItem → List Mark
in_item i = in_table i.table ++ if_there in_sql_exp i.on

abbrev pub in_key : OrderKey → List Mark
in_key k = in_sql_exp k.key

abbrev pub in_limit : Limit → List Mark
in_limit (limit.Int n) = []
in_limit (limit.Anti n) = mark.Splice n ∷ []

abbrev pub in_query : SqlQuery → List Mark
in_query q = in_selection q.selection ++ flat_map in_item q.from ++ if_there in_sql_exp q.filter ++ flat_map in_sql_exp q.group ++ flat_map in_key q.order ++
    if_there in_limit q.limit ++ if_there in_limit q.offset

abbrev pub in_assignment : Assignment → List Mark
in_assignment a = in_sql_exp a.value

abbrev pub in_change : SqlChange → List Mark
in_change (change.Insert p t columns values) = in_table t ++ flat_map in_sql_exp values
in_change (change.Update p t sets filter) = in_table t ++ flat_map in_assignment sets ++ if_there in_sql_exp filter
in_change (change.Delete p t filter) = in_table t ++ if_there in_sql_exp filter

-- the name variable of a tag
abbrev pub in_tag_field : Span → TagField → List Mark
in_tag_field p (tag_field.Variable x) = mark.Own sort.Con p x ∷ []
in_tag_field p _ = []

abbrev pub in_value : AttrValue → List Mark
in_value (attr_value.Text s) = []
in_value (attr_value.Exp n) = mark.Attribute n ∷ []

abbrev pub in_attr : Attr → List Mark
in_attr a = in_value a.value

abbrev mutual
  pub in_part : Span → XmlForm → List Mark
  in_part p (xml.Text s) = []
  in_part p (xml.Splice n) = mark.Splice n ∷ []
  in_part p (xml.Show n) = mark.Splice n ∷ []
  in_part p (xml.Element' tag attrs _ parts) = in_tag_field p tag.field ++ flat_map in_attr attrs ++ in_parts parts

  pub in_parts : {n : _} → Row_of-XmlPart n → List Mark
  in_parts end = []
  in_parts (more p x rest) = in_part p x ++ in_parts rest

abbrev pub in_xml_part : XmlPart → List Mark
in_xml_part x = in_part x.span x.form
