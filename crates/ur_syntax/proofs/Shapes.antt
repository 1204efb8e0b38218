-- The constructors that the code matches are those that the definitions name.
use Rattle.std.proofs.Common.{◌≡◌, refl, ap, List, [], ◌∷◌}
use Rattle.ur_base.specs.Shape.{Shape, count}
use Rattle.ur_syntax.specs.declared.kind.Kind.{Kind}
use Rattle.ur_syntax.specs.declared.kind.Kind.TheVariants as kind
use Rattle.ur_syntax.specs.declared.kind.Kind.TheBlock as K
use Rattle.ur_syntax.specs.declared.con.FieldName.{FieldName}
use Rattle.ur_syntax.specs.declared.con.Con.{Con}
use Rattle.ur_syntax.specs.declared.con.ConForm.TheVariants as con
use Rattle.ur_syntax.specs.declared.con.CField.TheBlock as C
use Rattle.ur_syntax.specs.declared.con.ConForm.{Row_of-CField, end_of-CField as end, more_of-CField as more, Row_of-RecordField, end_of-RecordField as last, more_of-RecordField as also}
use Rattle.ur_syntax.specs.declared.con.CField.{CField}
use Rattle.ur_syntax.specs.declared.con.CField.TheVariants as con_field
use Rattle.ur_syntax.specs.declared.con.RecordField.{RecordField}
use Rattle.ur_syntax.specs.Kinds.{arrow}
use Rattle.ur_syntax.specs.Forms.{fn_con, arrow_con, concat_con, apply_con, dollar_con}

pub kind-arrow : (k j : Kind) → kind.Arrow k j ≡ arrow k j
unfolding K.hidden-the_row-Kind-0 denote.Hole.Carrier.hidden
kind-arrow k j = refl

pub fn-made : (x : List _) (k : Kind) (c : Con) → con.Lambda x k c ≡ fn_con x k c.span c.form
unfolding C.hidden-the_row-Con-0 denote.Hole.Carrier.hidden
fn-made x k c = refl

pub arrow-made : (a b : Con) → con.Arrow a b ≡ arrow_con a.span a.form b.span b.form
unfolding C.hidden-the_row-Con-0 denote.Hole.Carrier.hidden
arrow-made a b = refl

pub concat-made : (a b : Con) → con.Concat a b ≡ concat_con a.span a.form b.span b.form
unfolding C.hidden-the_row-Con-0 denote.Hole.Carrier.hidden
concat-made a b = refl

pub apply-made : (a b : Con) → con.App a b ≡ apply_con a.span a.form b.span b.form
unfolding C.hidden-the_row-Con-0 denote.Hole.Carrier.hidden
apply-made a b = refl

pub dollar-made : (r : Con) → con.RecordOf r ≡ dollar_con r.span r.form
unfolding C.hidden-the_row-Con-0 denote.Hole.Carrier.hidden
dollar-made r = refl

-- the fields of a row and of a record, as they stand in a constructor
abbrev pub row : List CField → (s : Shape) × Row_of-CField (count s)
row [] = ([], end)
row (f ∷ fields) = (tt ∷ (row fields).0, more f (row fields).1)

abbrev pub record_row : List RecordField → (s : Shape) × Row_of-RecordField (count s)
record_row [] = ([], last)
record_row (f ∷ fields) = (tt ∷ (record_row fields).0, also f.name f.con.span f.con.form (record_row fields).1)

row-made : (r : List CField) → ◌≡◌ {A = (s : Shape) × Row_of-CField (count s)} (C.shape-the_row-CField-1 r, C.hidden-the_row-CField-1 r) (row r)
unfolding C.hidden-the_row-CField-1 C.shape-the_row-CField-1 denote.Hole.Carrier.hidden
row-made [] = refl
row-made (f ∷ r) = ap (λ (k : (s : Shape) × Row_of-CField (count s)). (tt ∷ k.0, more f k.1)) (row-made r)

pub fields-made : (r : List CField) → con.Row r ≡ con.Row' (row r).0 (row r).1
unfolding C.shape-the_row-CField-1
fields-made r = ap (λ (k : (s : Shape) × Row_of-CField (count s)). con.Row' k.0 k.1) (row-made r)

record-row-made : (r : List RecordField) → ◌≡◌ {A = (s : Shape) × Row_of-RecordField (count s)} (C.shape-the_row-RecordField-2 r, C.hidden-the_row-RecordField-2 r) (record_row r)
unfolding C.hidden-the_row-RecordField-2 C.shape-the_row-RecordField-2 denote.Hole.Carrier.hidden
record-row-made [] = refl
record-row-made (f ∷ r) = ap (λ (k : (s : Shape) × Row_of-RecordField (count s)). (tt ∷ k.0, also f.name f.con.span f.con.form k.1)) (record-row-made r)

pub record-made : (r : List RecordField) → con.Record r ≡ con.Record' (record_row r).0 (record_row r).1
unfolding C.shape-the_row-RecordField-2
record-made r = ap (λ (k : (s : Shape) × Row_of-RecordField (count s)). con.Record' k.0 k.1) (record-row-made r)

pub given-made : (x : FieldName) (c : Con) → con_field.Given x c ≡ con_field.Given' x c.span c.form
given-made x c = refl
