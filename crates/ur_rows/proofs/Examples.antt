-- Closed examples.
use Rattle.std.specs.Prelude.{◌≡◌, refl, ℕ, List, [], ◌∷◌, codes, Some}
use Rattle.ur_base.specs.declared.refusal.Span.{Span}
use Rattle.ur_syntax.specs.declared.kind.Kind.TheVariants as kind
use Rattle.ur_syntax.specs.declared.con.Con.{Con}
use Rattle.ur_syntax.specs.declared.con.ConForm.{ConForm}
use Rattle.ur_syntax.specs.declared.con.ConForm.TheVariants as con
use Rattle.ur_syntax.specs.declared.con.CField.{CField}
use Rattle.ur_syntax.specs.declared.con.CField.TheVariants as con_field
use Rattle.ur_syntax.specs.declared.con.CField.TheBlock as X
use Rattle.ur_rows.specs.declared.normal.Normal.TheBlock as N
use Rattle.ur_rows.specs.declared.normal.NormalType.TheBlock as T
use Rattle.ur_syntax.specs.declared.con.FieldName.TheVariants as field_name
use Rattle.ur_syntax.specs.declared.con.ConEnv.{ConEnv}
use Rattle.ur_syntax.specs.declared.con.ConMeaning.TheVariants as meaning
use Rattle.ur_syntax.specs.Names.{own}
use Rattle.ur_rows.specs.declared.normal.Var.TheVariants as var
use Rattle.ur_rows.specs.declared.normal.Label.TheVariants as label
use Rattle.ur_rows.specs.declared.normal.NormalType.TheVariants as ty
use Rattle.ur_rows.specs.declared.normal.Part.TheVariants as part
use Rattle.ur_rows.specs.declared.normal.Normal.TheVariants as normal
use Rattle.ur_rows.specs.declared.normal.NormalType.{NormalType}
use Rattle.ur_rows.specs.declared.normal.Part.{Part}
use Rattle.ur_rows.specs.Made.{record_of, arrow_of, list_of, field as field_of, mapped}
use Rattle.ur_rows.specs.Order.{stands_before}
use Rattle.ur_rows.specs.Normal.{nf}
use Rattle.ur_rows.specs.Apart.{name, row, pieces}
use Rattle.ur_rows.specs.Put.{instance_type}
use Rattle.ur_rows.specs.Types.{at_row}

abbrev pub nowhere : Span
nowhere = record { file = 0; from = 0; to = 0 }

abbrev pub at : ConForm → Con
at form = record { span = nowhere; form = form }

abbrev pub named : List ℕ → Con
named x = at (con.Var x)

abbrev pub app : Con → Con → Con
app f a = at (con.App f a)

abbrev pub row_of : List CField → Con
row_of fields = at (con.Row fields)

abbrev pub field : List ℕ → Con → CField
field a c = con_field.Given (field_name.Literal a) c

abbrev pub none_in_scope : ConEnv
none_in_scope = record { home = []; fields = []; entries = [] }

abbrev pub to_string : Con
to_string = at (con.Lambda (codes "t") kind.Star (at (con.Arrow (named (codes "t")) (named (codes "string")))))

-- map (fn t :: Type => t -> string) [B = string, A = int]
abbrev pub shower : Con
shower = app (app (named (codes "map")) to_string) (row_of (field (codes "B") (named (codes "string")) ∷ field (codes "A") (named (codes "int")) ∷ []))

fields_in_order : nf none_in_scope shower ≡ normal.Row (field_of (label.Literal (codes "A")) (arrow_of ty.Int ty.Str) ∷ field_of (label.Literal (codes "B")) (arrow_of ty.Str ty.Str) ∷ [])
unfolding X.hidden-the_row-Con-0 denote.Hole.Carrier.hidden X.hidden-the_row-CField-1 stands_before
fields_in_order = refl

abbrev pub with_r : ConEnv
with_r = record { home = []; fields = []; entries = record { name = own (codes "r"); kind = kind.Row; meaning = meaning.Variable } ∷ [] }

-- the map of the identity, and a map of a map
identity : nf with_r (app (app (named (codes "map")) (at (con.Lambda (codes "t") kind.Star (named (codes "t"))))) (named (codes "r"))) ≡ normal.Row (part.Piece (var.Free 0) ∷ [])
unfolding X.hidden-the_row-Con-0 denote.Hole.Carrier.hidden X.hidden-the_row-CField-1 stands_before
identity = refl

composition : nf with_r (app (app (named (codes "map")) (named (codes "list"))) (app (app (named (codes "map")) to_string) (named (codes "r")))) ≡
    normal.Row (mapped (var.Free 0) (list_of (arrow_of (ty.Variable (var.Bound 0)) ty.Str)) ∷ [])
unfolding X.hidden-the_row-Con-0 denote.Hole.Carrier.hidden X.hidden-the_row-CField-1 stands_before
composition = refl

-- (fn r :: {Type} => $(map list r)) [A = int]
beta : nf none_in_scope (app (at (con.Lambda (codes "r") kind.Row (at (con.RecordOf (app (app (named (codes "map")) (named (codes "list"))) (named (codes "r"))))))) (row_of (field (codes "A") (named (codes "int")) ∷ []))) ≡
    normal.Type (record_of (field_of (label.Literal (codes "A")) (list_of ty.Int) ∷ []))
unfolding X.hidden-the_row-Con-0 denote.Hole.Carrier.hidden X.hidden-the_row-CField-1 stands_before
beta = refl

-- the same by a definition
abbrev pub with_shown : ConEnv
with_shown = record {
  home = [];
  fields = [];
  entries = record {
    name = record { home = Some []; name = codes "shown" };
    kind = kind.Arrow kind.Row kind.Star;
    meaning = meaning.Defined (at (con.Lambda (codes "r") kind.Row (at (con.RecordOf (app (app (named (codes "map")) (named (codes "list"))) (named (codes "r")))))));
  } ∷ [];
}

defined : nf with_shown (app (named (codes "shown")) (row_of (field (codes "A") (named (codes "int")) ∷ []))) ≡
    normal.Type (record_of (field_of (label.Literal (codes "A")) (list_of ty.Int) ∷ []))
unfolding X.hidden-the_row-Con-0 denote.Hole.Carrier.hidden X.hidden-the_row-CField-1 stands_before
defined = refl

-- ---- disjointness

-- under `r ~ [A]`, `map list r` and `[A = int]` are apart; `[nm = int]` is not apart from itself by literals
abbrev pub row_r : List Part
row_r = mapped (var.Free 0) (list_of (ty.Variable (var.Bound 0))) ∷ []

abbrev pub row_a : List Part
row_a = field_of (label.Literal (codes "A")) ty.Int ∷ []

pieces_r : pieces row_r ≡ row (var.Free 0) ∷ []
pieces_r = refl

pieces_a : pieces row_a ≡ name (label.Literal (codes "A")) ∷ []
pieces_a = refl

-- ---- substitution

-- the type of `pick`'s parameter, `$([nm = t] ++ r)`, at A, int and `[B = string]`
abbrev pub picked : NormalType
picked = record_of (field_of (label.Variable (var.Free 0)) (ty.Variable (var.Free 1)) ∷ part.Piece (var.Free 2) ∷ [])

picked_in_order : instance_type (normal.Name (label.Literal (codes "A")) ∷ normal.Type ty.Int ∷ normal.Row (field_of (label.Literal (codes "B")) ty.Str ∷ []) ∷ []) picked ≡
    record_of (field_of (label.Literal (codes "A")) ty.Int ∷ field_of (label.Literal (codes "B")) ty.Str ∷ [])
unfolding stands_before
picked_in_order = refl

-- the variable in the other order: fields are sorted anew
other_order : instance_type (normal.Name (label.Literal (codes "C")) ∷ normal.Type ty.Int ∷ normal.Row (field_of (label.Literal (codes "B")) ty.Str ∷ []) ∷ []) picked ≡
    record_of (field_of (label.Literal (codes "B")) ty.Str ∷ field_of (label.Literal (codes "C")) ty.Int ∷ [])
unfolding stands_before
other_order = refl

-- `shower r`, `$(map (fn t => t -> string) r)`, at `[A = int]`
shown : at_row (record_of (mapped (var.Bound 0) (arrow_of (ty.Variable (var.Bound 0)) ty.Str) ∷ [])) row_a ≡
    record_of (field_of (label.Literal (codes "A")) (arrow_of ty.Int ty.Str) ∷ [])
shown = refl

-- and at `[nm = t] ++ rest`
shown_step : at_row (record_of (mapped (var.Bound 0) (arrow_of (ty.Variable (var.Bound 0)) ty.Str) ∷ []))
    (field_of (label.Variable (var.Free 0)) (ty.Variable (var.Free 1)) ∷ part.Piece (var.Free 2) ∷ []) ≡
    record_of (field_of (label.Variable (var.Free 0)) (arrow_of (ty.Variable (var.Free 1)) ty.Str) ∷ mapped (var.Free 2) (arrow_of (ty.Variable (var.Bound 0)) ty.Str) ∷ [])
unfolding stands_before
shown_step = refl
