-- Small declarations with what is declared behind them.
use Rattle.std.proofs.Common.{◌≡◌, refl, true, false, List, [], ◌∷◌, Option, Some, None, ℕ}
use Rattle.std.specs.Prelude.{pos, codes, option_map}
use Rattle.ur_base.specs.declared.refusal.Span.{Span}
use Rattle.ur_syntax.specs.declared.con.Con.{Con}
use Rattle.ur_syntax.specs.declared.con.ConForm.{ConForm, end_of-Con as no_con, more_of-Con as the_con, end_of-RecordField as no_record_field, more_of-RecordField as a_record_field}
use Rattle.ur_syntax.specs.declared.con.ConForm.TheVariants as con
use Rattle.ur_syntax.specs.declared.con.FieldName.TheVariants as field_name
use Rattle.ur_syntax.specs.declared.decl.Variant.{Variant as WrittenVariant}
use Rattle.ur_syntax.specs.declared.decl.FunDef.{FunDef}
use Rattle.ur_syntax.specs.declared.decl.Decl.{Decl}
use Rattle.ur_syntax.specs.declared.decl.DeclForm.{DeclForm}
use Rattle.ur_syntax.specs.declared.decl.DeclForm.TheVariants as decl
use Rattle.ur_syntax.specs.declared.exp.Binary.TheVariants as op
use Rattle.ur_syntax.specs.declared.exp.Binder.TheVariants as binder
use Rattle.ur_syntax.specs.declared.exp.Exp.{Exp as WrittenExp}
use Rattle.ur_syntax.specs.declared.exp.ExpForm.{ExpForm, end_of-Exp as alone, more_of-Exp as its}
use Rattle.ur_syntax.specs.declared.exp.ExpForm.TheVariants as e
use Rattle.ur_syntax.specs.declared.exp.Param.TheVariants as param
use Rattle.ur_values.specs.declared.schema.ColumnKind.TheVariants as column
use Rattle.ur_values.specs.declared.schema.TableShape.{TableShape}
use Rattle.ur_rows.specs.declared.normal.NormalType.TheVariants as ty
use Rattle.ur_tree.specs.declared.exp.Exp.{Exp}
use Rattle.ur_tree.specs.declared.exp.Exp.TheVariants as exp
use Rattle.ur_tree.specs.declared.exp.Exp.TheBlock.{end_of-Exp as no_more, more_of-Exp as one_more}
use Rattle.ur_tree.specs.Make as make
use Rattle.ur_typed.specs.Project.{Place}
use Rattle.ur_typed.specs.Declaring.{Sofar, Checked, decl_out, decls_out, project_out, nothing_yet}

abbrev at : Span
at = record { file = 1; «from» = 0; to = 0 }

abbrev home : List ℕ
home = codes "M"

-- within the module M, before its first declaration
abbrev start : Place
start = record {
  fields = codes "A" ∷ [];
  cons = [];
  globals = record { home = home; values = []; constructors = []; sequences = []; cookies = []; tables = record { tables = []; sequences = [] } };
  functions = 0;
  vals = 0;
  datatypes = 0;
  variants = 0;
}

abbrev nothing : Checked
nothing = nothing_yet start

abbrev written : ConForm → Con
written c = record { span = at; form = c }

abbrev int : Con
int = written (con.Var (codes "int"))

abbrev exp_of : ExpForm → WrittenExp
exp_of x = record { span = at; form = x }

abbrev behind : DeclForm → Option Sofar
behind d = decl_out 100 0 d nothing.0

-- `datatype d = A of int | B`: its constructors by their datatype and argument
abbrev variant : List ℕ → Option Con → WrittenVariant
variant x c = record { span = at; name = x; con = c }

constructors : option_map (λ z. z.variants) (behind (decl.Datatype (codes "d") (variant (codes "A") (Some int) ∷ variant (codes "B") None ∷ [])))
    ≡ Some (record { datatype = 0; name = codes "A"; arg = Some ty.Int } ∷ record { datatype = 0; name = codes "B"; arg = None } ∷ [])
constructors = refl

-- `datatype d = A of int -> int`: the argument is no value
arrow_argument : option_map (λ z. z.variants) (behind (decl.Datatype (codes "d") (variant (codes "A") (Some (written (con.Arrow' tt (the_con at int.form no_con) tt (the_con at int.form no_con)))) ∷ []))) ≡ None
arrow_argument = refl

-- `cookie c : int`, and `cookie c : unit`
cookie : option_map (λ z. z.cookies) (behind (decl.Cookie (codes "c") int)) ≡ Some ((codes "M.c", column.Int) ∷ [])
cookie = refl

unit_cookie : option_map (λ z. z.cookies) (behind (decl.Cookie (codes "c") (written (con.Var (codes "unit"))))) ≡ None
unit_cookie = refl

-- `table t : {A : int} PRIMARY KEY A`, and with a key B
abbrev columns : Con
columns = written (con.Record' (tt ∷ []) (a_record_field (field_name.Literal (codes "A")) at int.form no_record_field))

abbrev tables_behind : List ℕ → Option (List TableShape)
tables_behind key = option_map (λ z. z.place.globals.tables.tables) (behind (decl.Table (codes "t") columns (Some (key ∷ [])) []))

table : tables_behind (codes "A") ≡ Some (record { name = codes "M.t"; columns = (codes "A", column.Int) ∷ []; keys = (0 ∷ []) ∷ []; primary = true } ∷ [])
table = refl

other_key : tables_behind (codes "B") ≡ None
other_key = refl

-- `table t : {A : option int}`, and with `PRIMARY KEY A`; `cookie c : option int`
abbrev option_int : Con
option_int = written (con.App' tt (the_con at (con.Var (codes "option")) no_con) tt (the_con at int.form no_con))

abbrev optional_behind : Option (List (List ℕ)) → Option (List TableShape)
optional_behind key =
    option_map (λ z. z.place.globals.tables.tables)
    (behind (decl.Table (codes "t") (written (con.Record' (tt ∷ []) (a_record_field (field_name.Literal (codes "A")) at option_int.form no_record_field)))
    key []))

optional_column : optional_behind None ≡ Some (record { name = codes "M.t"; columns = (codes "A", column.OptInt) ∷ []; keys = []; primary = false } ∷ [])
optional_column = refl

optional_key : optional_behind (Some (codes "A" ∷ [])) ≡ None
optional_key = refl

option_cookie : option_map (λ z. z.cookies) (behind (decl.Cookie (codes "c") option_int)) ≡ None
option_cookie = refl

-- `fun f (x : int) : int = e`
abbrev function : List ℕ → Con → ExpForm → FunDef
function f t x = record { span = at; name = f; con_params = []; params = param.Value (binder.Named (codes "x")) int ∷ []; result = t; body = exp_of x }

abbrev decl_of : DeclForm → Decl
decl_of d = record { span = at; form = d }

abbrev bodies_behind : List Decl → Option (List Exp)
bodies_behind ds = option_map (λ p. p.1.functions) (decls_out 100 0 ds nothing)

-- `f x = g x` and `g x = x` see one another in a group
abbrev call : ExpForm
call = e.App' tt (its at (e.Var (codes "g")) alone) tt (its at (e.Var (codes "x")) alone)

group : bodies_behind (decl_of (decl.Fun (function (codes "f") int call ∷ function (codes "g") int (e.Var (codes "x")) ∷ [])) ∷ []) ≡ Some (make.apply (exp.Function 1 []) (tt ∷ []) (one_more (exp.Variable 0) no_more) ∷ exp.Variable 0 ∷ [])
group = refl

-- declared one behind the other, the first does not see the second
apart : bodies_behind (decl_of (decl.Fun (function (codes "f") int call ∷ [])) ∷ decl_of (decl.Fun (function (codes "g") int (e.Var (codes "x")) ∷ [])) ∷ []) ≡ None
apart = refl

-- a result has no type with an arrow
arrow_result : bodies_behind (decl_of (decl.Fun (function (codes "f") (written (con.Arrow' tt (the_con at int.form no_con) tt (the_con at int.form no_con))) (e.Var (codes "x")) ∷ [])) ∷ []) ≡ None
arrow_result = refl

-- `val v : int = 1`, and `val v : int = 1 + 1`, which is not static
abbrev vals_behind : ExpForm → Option (List Exp)
vals_behind x = option_map (λ p. p.1.vals) (decls_out 100 0 (decl_of (decl.Val (codes "v") int (exp_of x)) ∷ []) nothing)

val_one : vals_behind (e.Int 1) ≡ Some (exp.Int (pos 1) ∷ [])
val_one = refl

val_sum : vals_behind (e.Binary' op.Add tt (its at (e.Int 1) alone) tt (its at (e.Int 1) alone)) ≡ None
val_sum = refl

-- ---- entries

abbrev page : Con
page = written (con.App' tt (the_con at (con.Var (codes "transaction")) no_con) tt (the_con at (con.Var (codes "page")) no_con))

abbrev page_function : Con
page_function = written (con.Arrow' tt (the_con at int.form no_con) tt (the_con at page.form no_con))

abbrev entries_behind : List Decl → Con → Option (List ℕ)
entries_behind ds c = option_map (λ r. r.1) (project_out 100 nothing (home ∷ []) (record { decls = ds } ∷ []) (Some (record { vals = record { span = at; name = codes "f"; con = c } ∷ [] })))

abbrev body : ExpForm
body = e.Error' tt (its at (e.Xml' (record { parts = [] }) [] alone [] alone) alone)

-- an entry of the type that the signature gives, and of another one
entry : entries_behind (decl_of (decl.Fun (function (codes "f") page body ∷ [])) ∷ []) page_function ≡ Some (0 ∷ [])
entry = refl

other_entry : entries_behind (decl_of (decl.Fun (function (codes "f") page body ∷ [])) ∷ []) int ≡ None
other_entry = refl

-- a `val` is no entry, nor is a function that gives no page
val_entry : entries_behind (decl_of (decl.Val (codes "f") int (exp_of (e.Int 1))) ∷ []) int ≡ None
val_entry = refl

no_page : entries_behind (decl_of (decl.Fun (function (codes "f") int (e.Var (codes "x")) ∷ [])) ∷ []) (written (con.Arrow' tt (the_con at int.form no_con) tt (the_con at int.form no_con))) ≡ None
no_page = refl
