-- The normal form of a constructor.
use Rattle.std.specs.Prelude.{ℕ, suc, ◌+◌, ◌-◌, if◌then◌else◌, List, [], ◌∷◌, codes, Option, Some, None, bytes_eq}
use Rattle.ur_syntax.specs.declared.kind.Kind.{Kind}
use Rattle.ur_syntax.specs.declared.kind.Kind.TheVariants as kind
use Rattle.ur_syntax.specs.declared.con.FieldName.{FieldName}
use Rattle.ur_syntax.specs.declared.con.FieldName.TheVariants as field_name
use Rattle.ur_syntax.specs.declared.con.ConName.{ConName}
use Rattle.ur_syntax.specs.declared.con.Con.{Con}
use Rattle.ur_syntax.specs.declared.con.ConForm.{ConForm, end_of-Con as alone, more_of-Con as its, Row_of-CField, end_of-CField as end, more_of-CField as more, Row_of-RecordField, end_of-RecordField as last, more_of-RecordField as also}
use Rattle.ur_syntax.specs.declared.con.ConForm.TheVariants as con
use Rattle.ur_syntax.specs.declared.con.CField.{CField}
use Rattle.ur_syntax.specs.declared.con.CField.TheVariants as con_field
use Rattle.ur_syntax.specs.declared.con.ConMeaning.{ConMeaning}
use Rattle.ur_syntax.specs.declared.con.ConMeaning.TheVariants as meaning
use Rattle.ur_syntax.specs.declared.con.ConEntry.{ConEntry}
use Rattle.ur_syntax.specs.declared.con.ConEnv.{ConEnv}
use Rattle.ur_syntax.specs.Names.{own, member, seen}
use Rattle.ur_rows.specs.declared.normal.Var.{Var}
use Rattle.ur_rows.specs.declared.normal.Var.TheVariants as var
use Rattle.ur_rows.specs.declared.normal.Label.{Label}
use Rattle.ur_rows.specs.declared.normal.Label.TheVariants as label
use Rattle.ur_rows.specs.declared.normal.NormalType.{NormalType}
use Rattle.ur_rows.specs.declared.normal.NormalType.TheVariants as ty
use Rattle.ur_rows.specs.declared.normal.Part.{Part}
use Rattle.ur_rows.specs.declared.normal.Part.TheVariants as part
use Rattle.ur_rows.specs.declared.normal.Normal.{Normal}
use Rattle.ur_rows.specs.declared.normal.Normal.TheVariants as normal
use Rattle.ur_rows.specs.declared.normal.Normal.TheBlock.{Row_of-Normal, end_of-Normal as sole, more_of-Normal as the}
use Rattle.ur_rows.specs.Order.{with_part, joined}
use Rattle.ur_rows.specs.Made.{option_of, list_of, transaction_of, arrow_of, field, record_of, form_of, unit}
use Rattle.ur_rows.specs.Put.{as_type, as_label, as_row, raised, applied, mapped_row}

-- the names that module `home` sees from within `depth` `fn`s, the latest first, each with its normal form and the number of `fn`s
-- that this stands within
pub record Known : Type 0 where
  pub home : List ℕ
  pub depth : ℕ
  pub names : List (ConName × (ℕ × Normal))

-- a form, seen from further within
abbrev pub or_raised : ℕ → Option (ℕ × Normal) → Option Normal
or_raised depth None = None
or_raised depth (Some e) = Some (raised (depth - e.0) e.1)

abbrev pub known_as : ConName → Known → Option Normal
known_as x known = or_raised known.depth (seen known.home x known.names)

-- a variable of a kind that is no arrow
abbrev pub variable : Kind → Var → Normal
variable kind.Name v = normal.Name (label.Variable v)
variable kind.Row v = normal.Row (part.Piece v ∷ [])
variable _ v = normal.Type (ty.Variable v)

-- within one `fn` more
abbrev pub within : List ℕ → Kind → Known → Known
within x k known = record known { depth = suc known.depth; names = (own x, (suc known.depth, variable k (var.Bound 0))) ∷ known.names }

-- with an argument in place of an `fn`'s variable
abbrev pub with_argument : List ℕ → Normal → Known → Known
with_argument x a known = record known { names = (own x, (known.depth, a)) ∷ known.names }

-- a function of types that is not applied stands as an `fn`
abbrev pub type_function : (NormalType → NormalType) → Normal
type_function f = normal.Fn' kind.Star tt (the (normal.Type (f (ty.Variable (var.Bound 0)))) sole)

-- the body of a function of types
abbrev pub as_function : Normal → NormalType
as_function (normal.Fn' k _ (the c sole)) = as_type c
as_function _ = unit

-- `map f r`
abbrev pub map_of : List Normal → Normal
map_of (f ∷ r ∷ []) = normal.Row (mapped_row (as_function f) (as_row r))
map_of _ = normal.Row []

-- `xml form [] r`
abbrev pub xml_of : List Normal → Normal
xml_of (x ∷ y ∷ r ∷ []) = normal.Type (form_of (as_row r))
xml_of _ = normal.Type unit

-- The words of types. A declared name of the same spelling hides them.
abbrev pub word : List ℕ → Normal
word x =
    if bytes_eq x (codes "int") then normal.Type ty.Int else
    if bytes_eq x (codes "string") then normal.Type ty.Str else
    if bytes_eq x (codes "bool") then normal.Type ty.Bool else
    if bytes_eq x (codes "unit") then normal.Type unit else
    if bytes_eq x (codes "page") then normal.Type ty.Page else
    if bytes_eq x (codes "xbody") then normal.Type ty.Xbody else
    if bytes_eq x (codes "xtable") then normal.Type ty.Xtable else
    if bytes_eq x (codes "xtr") then normal.Type ty.Xtr else
    if bytes_eq x (codes "xform") then normal.Type (form_of []) else
    if bytes_eq x (codes "option") then type_function option_of else
    if bytes_eq x (codes "list") then type_function list_of else
    if bytes_eq x (codes "transaction") then type_function transaction_of else
    normal.Type unit

abbrev pub word_with : List ℕ → List Normal → Normal
word_with x args =
    if bytes_eq x (codes "map") then map_of args else
    if bytes_eq x (codes "xml") then xml_of args else applied (word x) args

-- a declared name, or else a word
abbrev pub name_with : Option Normal → List ℕ → List Normal → Normal
name_with (Some n) x args = applied n args
name_with None x args = word_with x args

abbrev pub label_of : Known → FieldName → Label
label_of known (field_name.Literal a) = label.Literal a
label_of known (field_name.Variable x) = as_label (name_with (known_as (own x) known) x [])

abbrev mutual
  -- the normal form of a constructor that is applied to arguments in normal form
  pub nf_with : Known → ConForm → List Normal → Normal
  nf_with known (con.Lambda' x k _ (its p c alone)) [] = normal.Fn' k tt (the (nf_with (within x k known) c []) sole)
  nf_with known (con.Lambda' x k _ (its p c alone)) (a ∷ args) = nf_with (with_argument x a known) c args
  nf_with known (con.Arrow' _ (its p a alone) _ (its q b alone)) args = normal.Type (arrow_of (as_type (nf_with known a [])) (as_type (nf_with known b [])))
  nf_with known (con.Concat' _ (its p a alone) _ (its q b alone)) args = normal.Row (joined (as_row (nf_with known a [])) (as_row (nf_with known b [])))
  nf_with known (con.App' _ (its p f alone) _ (its q a alone)) args = nf_with known f (nf_with known a [] ∷ args)
  nf_with known (con.Var x) args = name_with (known_as (own x) known) x args
  nf_with known (con.Member m x) args = name_with (known_as (member m x) known) x args
  nf_with known (con.Name a) args = normal.Name (label.Literal a)
  nf_with known (con.Row' _ fields) args = normal.Row (nf_fields known fields)
  nf_with known (con.Record' _ fields) args = normal.Type (record_of (nf_record known fields))
  nf_with known (con.RecordOf' _ (its p c alone)) args = normal.Type (record_of (as_row (nf_with known c [])))

  pub nf_fields : {n : _} → Known → Row_of-CField n → List Part
  nf_fields known end = []
  nf_fields known (more f rest) = with_part (nf_field known f) (nf_fields known rest)

  -- a name alone, which stands beside `~`, is read as a field of type unit
  pub nf_field : Known → CField → Part
  nf_field known (con_field.Bare x) = field (label_of known x) unit
  nf_field known (con_field.Given' x p c) = field (label_of known x) (as_type (nf_with known c []))

  pub nf_record : {n : _} → Known → Row_of-RecordField n → List Part
  nf_record known last = []
  nf_record known (also x p c rest) = with_part (field (label_of known x) (as_type (nf_with known c []))) (nf_record known rest)

-- a definition is read in its home
abbrev pub at_home : Option (List ℕ) → Known → Known
at_home None known = known
at_home (Some m) known = record known { home = m }

-- what an entry stands for, the variables before it being so many
abbrev pub entry_form : Known → ℕ → Option (List ℕ) → Kind → ConMeaning → Normal
entry_form known n home k meaning.Variable = variable k (var.Free n)
entry_form known n home k (meaning.Defined c) = nf_with (at_home home known) c.form []
entry_form known n home k (meaning.Datatype d) = normal.Type (ty.Datatype d)

abbrev pub variables_with : ConMeaning → ℕ → ℕ
variables_with meaning.Variable n = n + 1
variables_with _ n = n

abbrev pub known_after : Known → ℕ → List ConEntry → Known
known_after known n [] = known
known_after known n (e ∷ rest) =
    known_after (record known { names = (e.name, (0, entry_form known n e.name.home e.kind e.meaning)) ∷ known.names }) (variables_with e.meaning n) rest

abbrev pub known_in : ConEnv → Known
known_in env = known_after (record { home = env.home; depth = 0; names = [] }) 0 env.entries

-- The normal form of a constructor in an environment. Definition names stand for their right sides.
abbrev pub nf_form : ConEnv → ConForm → Normal
nf_form env c = nf_with (known_in env) c []

abbrev pub nf : ConEnv → Con → Normal
nf env c = nf_form env c.form
