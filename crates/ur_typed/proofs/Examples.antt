-- Small expressions with their types.
use Rattle.std.proofs.Common.{◌≡◌, refl, true, false, List, [], ◌∷◌, Option, Some, None, ℕ}
use Rattle.std.specs.Prelude.{pos, codes, option_map}
use Rattle.ur_base.specs.declared.refusal.Span.{Span}
use Rattle.ur_syntax.specs.declared.con.Con.{Con}
use Rattle.ur_syntax.specs.declared.con.ConForm.{ConForm, end_of-Con as no_con, more_of-Con as the_con, end_of-CField as no_field, more_of-CField as a_field}
use Rattle.ur_syntax.specs.declared.con.ConForm.TheVariants as con
use Rattle.ur_syntax.specs.declared.con.CField.TheVariants as con_field
use Rattle.ur_syntax.specs.declared.con.FieldName.TheVariants as field_name
use Rattle.ur_syntax.specs.declared.con.ConParam.TheVariants as con_param
use Rattle.ur_syntax.specs.declared.kind.Kind.TheVariants as kind
use Rattle.ur_syntax.specs.declared.sql.DeclName.{DeclName}
use Rattle.ur_syntax.specs.declared.sql.SqlQuery.{SqlQuery}
use Rattle.ur_syntax.specs.declared.sql.Selection.TheVariants as selection
use Rattle.ur_syntax.specs.declared.exp.Binary.TheVariants as op
use Rattle.ur_syntax.specs.declared.exp.Binder.TheVariants as binder
use Rattle.ur_syntax.specs.declared.exp.Param.TheVariants as param
use Rattle.ur_syntax.specs.declared.exp.LambdaParam.TheVariants as lambda_param
use Rattle.ur_syntax.specs.declared.exp.Argument.{Argument}
use Rattle.ur_syntax.specs.declared.exp.Argument.TheVariants as argument
use Rattle.ur_syntax.specs.declared.exp.PatForm.TheVariants as pat
use Rattle.ur_syntax.specs.declared.exp.ExpForm.{ExpForm, end_of-Exp as alone, more_of-Exp as its, end_of-Field as no_more_fields, more_of-Field as its_field, end_of-Branch as no_more_branches, more_of-Branch as its_branch}
use Rattle.ur_syntax.specs.declared.exp.ExpForm.TheVariants as e
use Rattle.ur_syntax.specs.declared.xml.AttrValue.TheVariants as attr_value
use Rattle.ur_syntax.specs.declared.xml.TagField.TheVariants as tag_field
use Rattle.ur_syntax.specs.declared.xml.Xml.{Xml}
use Rattle.ur_syntax.specs.declared.xml.XmlForm.{end_of-XmlPart as no_xml, more_of-XmlPart as an_xml}
use Rattle.ur_syntax.specs.declared.xml.XmlForm.TheVariants as form
use Rattle.ur_syntax.specs.Names.{member}
use Rattle.ur_values.specs.declared.schema.ColumnKind.TheVariants as column
use Rattle.ur_rows.specs.declared.normal.Label.TheVariants as label
use Rattle.ur_rows.specs.declared.normal.NormalType.{NormalType}
use Rattle.ur_rows.specs.declared.normal.NormalType.TheVariants as ty
use Rattle.ur_rows.specs.Made.{unit, record_of, field, option_of, transaction_of, arrow_of}
use Rattle.ur_tree.specs.declared.exp.Exp.TheVariants as exp
use Rattle.ur_tree.specs.declared.exp.Binary.TheVariants as binary
use Rattle.ur_tree.specs.Make as make
use Rattle.ur_tree.specs.Heads.{Head}
use Rattle.ur_typed_rules.specs.Names.{function, value}
use Rattle.ur_typed_rules.specs.Scopes.{World, Scope, finds, wants}
use Rattle.ur_typed.specs.Rules.{Sites, Out}
use Rattle.ur_sqltype.specs.Query.{query_of}
use Rattle.ur_typed.specs.Walking.{typed}

abbrev at : Span
at = record { file = 1; «from» = 0; to = 0 }

abbrev home : List ℕ
home = codes "M"

abbrev int_to_int : NormalType
int_to_int = arrow_of ty.Int ty.Int

-- fun twice (f : int -> int) (x : int) : int
abbrev twice : Head
twice = record { cons = []; params = record { fixed = true; of = int_to_int } ∷ record { fixed = false; of = ty.Int } ∷ []; result = ty.Int }

-- fun shown (n : int) : transaction page
abbrev shown : Head
shown = record { cons = []; params = record { fixed = false; of = ty.Int } ∷ []; result = transaction_of ty.Page }

-- fun saved (r : {A : string}) : transaction page
abbrev saved : Head
saved = record { cons = []; params = record { fixed = false; of = record_of (field (label.Literal (codes "A")) ty.Str ∷ []) } ∷ []; result = transaction_of ty.Page }

-- table t : {A : int}
abbrev world : World
world = record {
  globals = record {
    home = home;
    values = (member home (codes "twice"), function 0) ∷ (member home (codes "shown"), function 1) ∷ (member home (codes "saved"), function 2) ∷ [];
    constructors = [];
    sequences = (member home (codes "s"), 0) ∷ [];
    cookies = (member home (codes "c"), 0) ∷ [];
    tables = record { tables = record { name = codes "M.t"; columns = (codes "A", column.Int) ∷ []; keys = []; primary = false } ∷ []; sequences = [] };
  };
  declared = record { variants = []; cookies = column.Int ∷ []; vals = []; functions = twice ∷ shown ∷ saved ∷ []; sequences = 1; queries = []; changes = [] };
  fields = codes "A" ∷ codes "T" ∷ [];
  most = 100;
}

abbrev here : Scope
here = record { names = record { cons = record { home = home; fields = world.fields; entries = [] }; locals = [] }; env = record { kinds = []; known = []; values = []; fixed = [] } }

abbrev none : Sites
none = record { queries = []; changes = [] }

abbrev type_of : Option Out → Option NormalType
type_of = option_map (λ o. o.of)

abbrev found : ExpForm → Option NormalType
found x = type_of (typed world x here none finds)

abbrev checked : NormalType → ExpForm → Option NormalType
checked t x = type_of (typed world x here none (wants t))

abbrev app : ExpForm → ExpForm → ExpForm
app x y = e.App' tt (its at x alone) tt (its at y alone)

abbrev fn : ExpForm → ExpForm
fn b = e.Lambda' (lambda_param.Typed (param.Value (binder.Named (codes "x")) (record { span = at; form = con.Var (codes "int") })) ∷ []) tt (its at b alone)

abbrev plus : ExpForm → ExpForm → ExpForm
plus x y = e.Binary' op.Add tt (its at x alone) tt (its at y alone)

-- `1 + 2`, whole
sum : typed world (plus (e.Int 1) (e.Int 2)) here none finds ≡ Some (record { of = ty.Int; exp = make.binary binary.Add (exp.Int (pos 1)) (exp.Int (pos 2)); sites = none })
sum = refl

-- `twice (fn (x : int) => x + 1) 3` has a static argument
static_argument : found (app (app (e.Var (codes "twice")) (fn (plus (e.Var (codes "x")) (e.Int 1)))) (e.Int 3)) ≡ Some ty.Int
static_argument = refl

-- one chosen by `if` is none
chosen_argument : found (app (app (e.Var (codes "twice")) (e.If' tt (its at (e.Constructor (codes "True")) alone) tt (its at (fn (e.Int 1)) alone) tt (its at (fn (e.Int 2)) alone))) (e.Int 3)) ≡ None
chosen_argument = refl

-- `twice 3` and `twice` at too few arguments
too_few : found (app (e.Var (codes "twice")) (fn (e.Int 1))) ≡ None
too_few = refl

-- `Some None` has a type only where one is wanted
unannotated : found (e.Some' tt (its at (e.Constructor (codes "None")) alone)) ≡ None
unannotated = refl

annotated : checked (option_of (option_of ty.Int)) (e.Some' tt (its at (e.Constructor (codes "None")) alone)) ≡ Some (option_of (option_of ty.Int))
annotated = refl

-- `case True of True => 1 | False => 2`, and without its second branch
abbrev yes : ExpForm
yes = e.Constructor (codes "True")

both_branches : found (e.Case' tt (its at yes alone) (tt ∷ tt ∷ []) (its_branch (record { span = at; form = pat.True }) at (e.Int 1) (its_branch (record { span = at; form = pat.False }) at (e.Int 2) no_more_branches))) ≡ Some ty.Int
both_branches = refl

one_branch : found (e.Case' tt (its at yes alone) (tt ∷ []) (its_branch (record { span = at; form = pat.True }) at (e.Int 1) no_more_branches)) ≡ None
one_branch = refl

-- `n <- nextval s; return n`
runs : found (e.Bind' (binder.Named (codes "n")) tt (its at (e.Nextval (record { span = at; «module» = None; name = codes "s" })) alone) tt (its at (e.Return' tt (its at (e.Var (codes "n")) alone)) alone)) ≡ Some (transaction_of ty.Int)
runs = refl

-- `setCookie c {Value = 1, Expires = None, Secure = False}`, and with another last field
abbrev cookie_record : List ℕ → ExpForm
cookie_record x = e.Record' (tt ∷ tt ∷ tt ∷ []) (its_field (field_name.Literal (codes "Value")) at (e.Int 1) (its_field (field_name.Literal (codes "Expires")) at (e.Constructor (codes "None")) (its_field (field_name.Literal (codes "Secure")) at (e.Constructor x) no_more_fields)))

abbrev the_cookie : DeclName
the_cookie = record { span = at; «module» = None; name = codes "c" }

cookie_set : found (e.SetCookie' the_cookie tt (its at (cookie_record (codes "False")) alone)) ≡ Some (transaction_of unit)
cookie_set = refl

not_so_set : found (e.SetCookie' the_cookie tt (its at (cookie_record (codes "True")) alone)) ≡ None
not_so_set = refl

-- `fold [fn r :: {Type} => int] (fn [nm :: Name] [t :: Type] [rest :: {Type}] [[nm] ~ rest] (acc : int) => acc + 1) 0 [[]]`
abbrev a_con : ConForm → Con
a_con c = record { span = at; form = c }

abbrev counting : ExpForm
counting = e.Lambda' (lambda_param.Con (con_param.Kinded (codes "nm") kind.Name) ∷ lambda_param.Con (con_param.Kinded (codes "t") kind.Star) ∷ lambda_param.Con (con_param.Kinded (codes "rest") kind.Row)
    ∷ lambda_param.Con (con_param.Disjoint (a_con (con.Row' (tt ∷ []) (a_field (con_field.Bare (field_name.Variable (codes "nm"))) no_field))) (a_con (con.Var (codes "rest"))))
    ∷ lambda_param.Typed (param.Value (binder.Named (codes "acc")) (a_con (con.Var (codes "int")))) ∷ []) tt (its at (plus (e.Var (codes "acc")) (e.Int 1)) alone)

fold : found (e.Fold' (a_con (con.Lambda' (codes "r") kind.Row tt (the_con at (con.Var (codes "int")) no_con))) tt (its at counting alone) tt (its at (e.Int 0) alone) (a_con (con.Row' [] no_field))) ≡ Some ty.Int
fold = refl

-- `<xml><form><textbox{#A}/><submit action={saved}/></form></xml>`, with a link beside it to `shown 3`

abbrev linked : Xml
linked = record {
  parts =
      record {
        span = at;
        form = form.Element' (record { word = codes "form"; field = tag_field.None }) [] (tt ∷ tt ∷ [])
            (an_xml at (form.Element' (record { word = codes "textbox"; field = tag_field.Literal (codes "A") }) [] [] no_xml)
            (an_xml at (form.Element' (record { word = codes "submit"; field = tag_field.None }) (record { name = codes "action"; value = attr_value.Exp 0 } ∷ []) [] no_xml) no_xml));
      }
      ∷ record { span = at; form = form.Element' (record { word = codes "a"; field = tag_field.None }) (record { name = codes "link"; value = attr_value.Exp 1 } ∷ []) (tt ∷ []) (an_xml at (form.Text (codes "x")) no_xml) } ∷ [];
}

form_and_link : found (e.Xml' linked [] alone (tt ∷ tt ∷ []) (its at (e.Var (codes "saved")) (its at (app (e.Var (codes "shown")) (e.Int 3)) alone))) ≡ Some ty.Xbody
form_and_link = refl

-- the button's function takes another record
other_action : found (e.Xml' linked [] alone (tt ∷ tt ∷ []) (its at (e.Var (codes "shown")) (its at (app (e.Var (codes "shown")) (e.Int 3)) alone))) ≡ None
other_action = refl

-- `queryX (SELECT * FROM t) (fn r => <xml>{[r.T.A]}</xml>)`
abbrev all_of_t : SqlQuery
all_of_t = record { span = at; selection = selection.All; «from» = record { span = at; table = record { span = at; «module» = None; name = codes "t" }; alias = None; on = None } ∷ []; filter = None; group = []; order = []; limit = None; offset = None }

abbrev row_shown : ExpForm
row_shown = e.Xml' (record { parts = record { span = at; form = form.Show 0 } ∷ [] }) (tt ∷ []) (its at (e.Project' tt (its at (e.Project' tt (its at (e.Var (codes "r")) alone) (field_name.Literal (codes "T"))) alone) (field_name.Literal (codes "A"))) alone) [] alone

rows : found (e.QueryX' all_of_t [] alone tt (its at (e.Lambda' (lambda_param.Bare (binder.Named (codes "r")) ∷ []) tt (its at row_shown alone)) alone)) ≡ Some (transaction_of ty.Xbody)
unfolding query_of
rows = refl

-- `case x of A => 1 | B => 2` and `case x of A y => y | B => 2`, where A has an int and B has nothing
abbrev letters : World
letters = record {
  globals = record { home = home; values = []; constructors = (member home (codes "A"), 0) ∷ (member home (codes "B"), 1) ∷ []; sequences = []; cookies = []; tables = record { tables = []; sequences = [] } };
  declared = record { variants = (0, Some ty.Int) ∷ (0, None) ∷ []; cookies = []; vals = []; functions = []; sequences = 0; queries = []; changes = [] };
  fields = [];
  most = 100;
}

abbrev with_x : Scope
with_x = record { names = record { cons = here.names.cons; locals = value (Some (codes "x")) ∷ [] }; env = record { kinds = []; known = []; values = ty.Datatype 0 ∷ []; fixed = [] } }

abbrev cases_of_x : Argument → ExpForm → Argument → ExpForm
cases_of_x a x b = e.Case' tt (its at (e.Var (codes "x")) alone) (tt ∷ tt ∷ []) (its_branch (record { span = at; form = pat.Constructor (codes "A") a }) at x (its_branch (record { span = at; form = pat.Constructor (codes "B") b }) at (e.Int 2) no_more_branches))

abbrev named : Argument
named = argument.Bound (binder.Named (codes "y"))

argument_bound : type_of (typed letters (cases_of_x named (e.Var (codes "y")) argument.Absent) with_x none finds) ≡ Some ty.Int
argument_bound = refl

argument_left_out : type_of (typed letters (cases_of_x argument.Absent (e.Int 1) argument.Absent) with_x none finds) ≡ None
argument_left_out = refl

argument_too_many : type_of (typed letters (cases_of_x named (e.Int 1) named) with_x none finds) ≡ None
argument_too_many = refl
