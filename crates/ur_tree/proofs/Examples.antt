-- Small types as they are written, the row of a query, and what may stand where.
use Rattle.std.proofs.Common.{◌≡◌, refl, [], ◌∷◌, Some, None}
use Rattle.std.specs.Prelude.{codes, pos}
use Rattle.ur_values.specs.declared.schema.ColumnKind.TheVariants as kind
use Rattle.ur_values.specs.declared.value.Tag.TheVariants as tag
use Rattle.ur_values.specs.declared.value.Value.TheVariants as v
use Rattle.ur_sql.specs.declared.scalar.Comparison.TheVariants as compare
use Rattle.ur_sql.specs.declared.scalar.Scalar.{more_of-Scalar as one, end_of-Scalar as end}
use Rattle.ur_sql.specs.declared.scalar.Scalar.TheVariants as s
use Rattle.ur_sql.specs.declared.query.Query.{Query}
use Rattle.ur_sql.specs.declared.query.Field.TheVariants as field
use Rattle.ur_sql.specs.declared.query.Aggregate.TheVariants as agg
use Rattle.ur_rows.specs.declared.normal.Label.TheVariants as label
use Rattle.ur_rows.specs.declared.normal.NormalType.TheVariants as ty
use Rattle.ur_rows.specs.Made as made
use Rattle.ur_rows.specs.Order.{stands_before}
use Rattle.ur_tree.specs.FieldNames.{capital}
use Rattle.ur_tree.specs.Places.{in_body, in_table, in_form, inside, fields_found}
use Rattle.ur_tree.specs.QueryRow.{query_row}
use Rattle.ur_tree.specs.Text.{type_text, row_text}

-- ---- how types are written

record_text : type_text [] (made.record_of (made.field (label.Literal (codes "A")) ty.Int ∷ made.field (label.Literal (codes "B")) made.unit ∷ [])) ≡ codes "$[A = (int); B = ($[]); ]"
record_text = refl

row_alone : row_text [] (made.field (label.Literal (codes "A")) ty.Int ∷ []) ≡ codes "[A = (int); ]"
row_alone = refl

arrow_text : type_text (codes "color" ∷ []) (made.arrow_of (made.option_of (ty.Datatype 0)) (made.transaction_of ty.Page)) ≡ codes "(option (color)) -> (transaction (page))"
arrow_text = refl

-- ---- the row of a query

-- `SELECT MAX(s.B) AS M FROM s WHERE s.A = 9`, `s` having an int and a string: M is optional
abbrev greatest : Query
greatest = record {
  params = [];
  fields = field.Over (record { 0 = 0 }) (agg.Max (s.Column 0 1)) ∷ [];
  «from» = record { table = 0; columns = kind.Int ∷ kind.Str ∷ [] } ∷ [];
  on = [];
  filter = Some (s.Compare' compare.Equal tt (one (s.Column 0 0) end) tt (one (s.Constant (v.Int (pos 9))) end));
  group = [];
  order = [];
  limit = None;
  offset = None;
}

greatest_is_optional : query_row (codes "M" ∷ []) greatest ≡ made.field (label.Literal (codes "M")) (made.option_of ty.Str) ∷ []
greatest_is_optional = refl

-- `SELECT s.A AS A, SOME(s.B) AS B FROM s`, `s` having an optional int and a string
abbrev options : Query
options = record {
  params = [];
  fields = field.Single (record { 0 = 0 }) (s.Column 0 0) ∷ field.Single (record { 0 = 1 }) (s.Present' tt (one (s.Column 0 1) end)) ∷ [];
  «from» = record { table = 0; columns = kind.OptInt ∷ kind.Str ∷ [] } ∷ [];
  on = [];
  filter = None;
  group = [];
  order = [];
  limit = None;
  offset = None;
}

options_are_optional : query_row (codes "A" ∷ codes "B" ∷ []) options
    ≡ made.field (label.Literal (codes "A")) (made.option_of ty.Int) ∷ made.field (label.Literal (codes "B")) (made.option_of ty.Str) ∷ []
unfolding stands_before
options_are_optional = refl

-- ---- names

capital_note : capital (codes "note") ≡ codes "Note"
capital_note = refl

-- ---- places

-- a table stands in a body, a row of one does not
table_in_body : inside in_body tag.Table ≡ Some in_table
table_in_body = refl

row_in_body : inside in_body tag.Tr ≡ None
row_in_body = refl

-- a form stands in a body and not in a form
form_in_body : inside in_body tag.Form ≡ Some in_form
form_in_body = refl

form_in_form : inside in_form tag.Form ≡ None
form_in_form = refl

-- what is spliced into a form has the fields of its row
found_in_form : fields_found (made.form_of (made.field (label.Literal (codes "A")) ty.Str ∷ [])) ≡ Some (made.field (label.Literal (codes "A")) ty.Str ∷ [])
found_in_form = refl
