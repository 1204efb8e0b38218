-- The equations of the normal form at the constructors that code matches.
use Rattle.std.proofs.Common.{◌≡◌, refl, ap, ℕ, List, [], ◌∷◌}
use Rattle.ur_syntax.specs.declared.kind.Kind.{Kind}
use Rattle.ur_syntax.specs.declared.con.Con.{Con}
use Rattle.ur_syntax.specs.declared.con.ConForm.TheVariants as con
use Rattle.ur_syntax.specs.declared.con.CField.{CField}
use Rattle.ur_syntax.specs.declared.con.RecordField.{RecordField}
use Rattle.ur_syntax.specs.declared.con.CField.TheBlock as X
use Rattle.ur_syntax.specs.Forms.{fn_con}
use Rattle.ur_rows.specs.declared.normal.Normal.{Normal}
use Rattle.ur_rows.specs.declared.normal.Normal.TheVariants as normal
use Rattle.ur_rows.specs.Made.{arrow_of, record_of}
use Rattle.ur_rows.specs.Order.{with_part, joined}
use Rattle.ur_rows.specs.Put.{as_type, as_row}
use Rattle.ur_rows.specs.Normal.{Known, with_argument, nf_with, nf_field, nf_fields, nf_record}
use Rattle.ur_rows_normal.specs.Walk.{parts_of, record_part, record_parts_of}

pub lambda-made : (x : List ℕ) (k : Kind) (c : Con) → con.Lambda x k c ≡ fn_con x k c.span c.form
unfolding X.hidden-the_row-Con-0 denote.Hole.Carrier.hidden
lambda-made x k c = refl

pub nf-given : (known : Known) (x : List ℕ) (k : Kind) (c : Con) (a : Normal) (args : List Normal) → nf_with known (con.Lambda x k c) (a ∷ args) ≡ nf_with (with_argument x a known) c.form args
unfolding X.hidden-the_row-Con-0 denote.Hole.Carrier.hidden
nf-given known x k c a args = refl

pub nf-arrow : (known : Known) (a b : Con) (args : List Normal) → nf_with known (con.Arrow a b) args ≡ normal.Type (arrow_of (as_type (nf_with known a.form [])) (as_type (nf_with known b.form [])))
unfolding X.hidden-the_row-Con-0 denote.Hole.Carrier.hidden
nf-arrow known a b args = refl

pub nf-concat : (known : Known) (a b : Con) (args : List Normal) → nf_with known (con.Concat a b) args ≡ normal.Row (joined (as_row (nf_with known a.form [])) (as_row (nf_with known b.form [])))
unfolding X.hidden-the_row-Con-0 denote.Hole.Carrier.hidden
nf-concat known a b args = refl

pub nf-app : (known : Known) (f a : Con) (args : List Normal) → nf_with known (con.App f a) args ≡ nf_with known f.form (nf_with known a.form [] ∷ args)
unfolding X.hidden-the_row-Con-0 denote.Hole.Carrier.hidden
nf-app known f a args = refl

pub nf-dollar : (known : Known) (r : Con) (args : List Normal) → nf_with known (con.RecordOf r) args ≡ normal.Type (record_of (as_row (nf_with known r.form [])))
unfolding X.hidden-the_row-Con-0 denote.Hole.Carrier.hidden
nf-dollar known r args = refl

fields-made : (known : Known) (fields : List CField) → nf_fields known (X.hidden-the_row-CField-1 fields) ≡ parts_of known fields
unfolding X.hidden-the_row-CField-1 X.shape-the_row-CField-1 denote.Hole.Carrier.hidden
fields-made known [] = refl
fields-made known (f ∷ fields) = ap (with_part (nf_field known f)) (fields-made known fields)

pub nf-row : (known : Known) (fields : List CField) (args : List Normal) → nf_with known (con.Row fields) args ≡ normal.Row (parts_of known fields)
nf-row known fields args = ap normal.Row (fields-made known fields)

record-made : (known : Known) (fields : List RecordField) → nf_record known (X.hidden-the_row-RecordField-2 fields) ≡ record_parts_of known fields
unfolding X.hidden-the_row-RecordField-2 X.shape-the_row-RecordField-2 denote.Hole.Carrier.hidden
record-made known [] = refl
record-made known (f ∷ fields) = ap (with_part (record_part known f)) (record-made known fields)

pub nf-record : (known : Known) (fields : List RecordField) (args : List Normal) → nf_with known (con.Record fields) args ≡ normal.Type (record_of (record_parts_of known fields))
nf-record known fields args = ap (λ r. normal.Type (record_of r)) (record-made known fields)
