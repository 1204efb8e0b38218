-- What is declared so far, as a function of the declarations before: their heads, and then their bodies. Names are told apart and constructors
-- have their kinds before this.
use Rattle.std.specs.Prelude.{pred, ◌&&◌, ◌++◌, ◌+◌, ℕ, not, nat_le, nat_eq, bytes_eq, Bool, true, false, List, [], ◌∷◌, map, length, Option, Some, None, option_map, option_and_then, is_none, slice_get}
use Rattle.std.specs.List.{list_all}
use Rattle.ur_syntax.specs.Names.{looked_up, name_text}
use Rattle.ur_syntax.specs.declared.con.Con.{Con}
use Rattle.ur_syntax.specs.declared.con.ConMeaning.TheVariants as meaning
use Rattle.ur_syntax.specs.declared.con.ConParam.{ConParam as WrittenConParam}
use Rattle.ur_syntax.specs.declared.con.ConParam.TheVariants as written_con
use Rattle.ur_syntax.specs.declared.kind.Kind.{Kind}
use Rattle.ur_syntax.specs.declared.kind.Kind.TheVariants as kind
use Rattle.ur_syntax.specs.declared.decl.Variant.{Variant as WrittenVariant}
use Rattle.ur_syntax.specs.declared.decl.Constraint.{Constraint}
use Rattle.ur_syntax.specs.declared.decl.FunDef.{FunDef}
use Rattle.ur_syntax.specs.declared.decl.Decl.{Decl}
use Rattle.ur_syntax.specs.declared.decl.DeclForm.{DeclForm}
use Rattle.ur_syntax.specs.declared.decl.DeclForm.TheVariants as decl
use Rattle.ur_syntax.specs.declared.decl.Module.{Module}
use Rattle.ur_syntax.specs.declared.decl.Signature.{Signature}
use Rattle.ur_syntax.specs.declared.decl.ValDecl.{ValDecl}
use Rattle.ur_syntax.specs.declared.exp.ExpForm.{ExpForm}
use Rattle.ur_syntax.specs.declared.exp.Param.{Param as WrittenParam}
use Rattle.ur_values.specs.declared.schema.ColumnKind.{ColumnKind}
use Rattle.ur_values.specs.declared.schema.TableShape.{TableShape}
use Rattle.ur_rows.specs.declared.normal.Normal.{Normal}
use Rattle.ur_rows.specs.declared.normal.NormalType.{NormalType}
use Rattle.ur_rows.specs.declared.normal.Part.{Part}
use Rattle.ur_rows.specs.Nodes.{nodes}
use Rattle.ur_rows.specs.Normal.{nf}
use Rattle.ur_rows.specs.Put.{as_type, as_row}
use Rattle.ur_rows.specs.Types.{is_value_type, holds_arrow, is_placed}
use Rattle.ur_tree.specs.declared.exp.Exp.{Exp}
use Rattle.ur_tree.specs.declared.typed.Datatype.{Datatype}
use Rattle.ur_tree.specs.declared.typed.Variant.{Variant}
use Rattle.ur_tree.specs.declared.typed.ConParam.{ConParam}
use Rattle.ur_tree.specs.declared.typed.ConParam.TheVariants as con_param
use Rattle.ur_tree.specs.Heads.{Head, Declared, function_type}
use Rattle.ur_tree.specs.Env.{Env, variables}
use Rattle.ur_tree.specs.App.{nothing_in_scope, within_head, within_body}
use Rattle.ur_tree.specs.IsStatic.{is_static}
use Rattle.ur_tree.specs.Typing.{are_linkable, types_of}
use Rattle.ur_rows.specs.Kinded.{row_is_in}
use Rattle.ur_typed_rules.specs.Names.{Names, with_con}
use Rattle.ur_typed_rules.specs.Names as here
use Rattle.ur_typed_rules.specs.Scopes.{World, Scope, wants}
use Rattle.ur_typed_rules.specs.Tests.{same_type, is_type, are_params, con_rows_are_apart, is_page}
use Rattle.ur_sqltype.specs.declared.keys.SqlKey.{SqlKey}
use Rattle.ur_sqltype.specs.Lists.{all_of, repeated}
use Rattle.ur_sqltype.specs.Expression.{is_optional}
use Rattle.ur_sqltype.specs.Table.{type_kind, column_from, record_row, key_of, kind_at, has_primary}
use Rattle.ur_rows.specs.declared.normal.Normal.TheVariants as normal
use Rattle.ur_typed.specs.Rules.{Sites, Out}
use Rattle.ur_typed.specs.Walking.{typed}
use Rattle.ur_typed.specs.Project.{Place, env_at, names_at, at, with_entry, with_function, with_val, with_variant, with_table, with_sequence, with_cookie, enter, written_keys}
use Rattle.ur_typed_rules.specs.Rules.{if_so, Params, no_params, and_params, param_out, small_type, written_type}

-- a function's head, with its module and its name
pub record FunctionHead : Type 0 where
  pub «module» : ℕ
  pub name : List ℕ
  pub head : Head

-- the place behind some declarations, and what they declare
pub record Sofar : Type 0 where
  pub place : Place
  pub datatypes : List Datatype
  pub variants : List Variant
  pub vals : List NormalType
  pub functions : List FunctionHead
  pub cookies : List (List ℕ × ColumnKind)
  pub sequences : List (List ℕ)

abbrev pub declared_so_far : Sofar → Declared
declared_so_far z = record {
  variants = map (λ v. (v.datatype, v.arg)) z.variants;
  cookies = map (λ c. c.1) z.cookies;
  vals = z.vals;
  functions = map (λ f. f.head) z.functions;
  sequences = length z.sequences;
  queries = [];
  changes = [];
}

-- what an expression behind them sees
abbrev pub world_behind : ℕ → Sofar → World
world_behind most z = record { globals = z.place.globals; declared = declared_so_far z; fields = z.place.fields; most = most }

abbrev pub top_scope : Sofar → Scope
top_scope z = record { names = names_at z.place; env = nothing_in_scope }

-- the names of the datatypes, by which types are told
abbrev pub datatype_names : Sofar → List (List ℕ)
datatype_names z = map (λ d. d.name) z.datatypes

-- the name of a table, sequence or cookie of this module, as the store has it
abbrev pub full_name : Sofar → List ℕ → List ℕ
full_name z x = name_text (Some z.place.globals.home) x

-- ---- types and datatypes

abbrev pub with_defined : List ℕ → Kind → Con → Sofar → Sofar
with_defined x k c z = record z { place = with_entry x k (meaning.Defined c) z.place }

abbrev pub may_be_defined : ℕ → Sofar → Con → Bool
may_be_defined most z c = let n : Normal = nf (env_at z.place) c in nat_le (nodes n) most && con_rows_are_apart nothing_in_scope n

abbrev pub defined_out : ℕ → List ℕ → Kind → Con → Sofar → Option Sofar
defined_out most x k c z = if_so (may_be_defined most z c) (Some (with_defined x k c z))

-- the argument of a datatype's constructor is a value
abbrev pub argument_out : ℕ → Sofar → Con → Option NormalType
argument_out most z c = option_and_then (λ t. if_so (is_value_type t) (Some t)) (written_type (world_behind most z) (top_scope z) c)

abbrev pub with_constructor : ℕ → List ℕ → Option NormalType → Sofar → Sofar
with_constructor datatype x a z = record z { place = with_variant x z.place; variants = z.variants ++ record { datatype = datatype; name = x; arg = a } ∷ [] }

abbrev pub variant_out : ℕ → ℕ → List ℕ → Option Con → Sofar → Option Sofar
variant_out most datatype x None z = Some (with_constructor datatype x None z)
variant_out most datatype x (Some c) z = option_map (λ t. with_constructor datatype x (Some t) z) (argument_out most z c)

abbrev pub variants_out : ℕ → ℕ → List WrittenVariant → Sofar → Option Sofar
variants_out most datatype [] z = Some z
variants_out most datatype (v ∷ vs) z = option_and_then (variants_out most datatype vs) (variant_out most datatype v.name v.con z)

-- a datatype is in scope of its own constructors
abbrev pub counted : Place → Place
counted p = record p { datatypes = p.datatypes + 1 }

abbrev pub with_datatype : ℕ → List ℕ → Sofar → Sofar
with_datatype home x z = record z { place = with_entry x kind.Star (meaning.Datatype z.place.datatypes) (counted z.place); datatypes = z.datatypes ++ record { «module» = home; name = x } ∷ [] }

-- ---- tables, sequences and cookies

abbrev pub shape_with : List ℕ → List SqlKey → List (List ℕ × ColumnKind) → List (List ℕ) → TableShape
shape_with name keys columns places = record { name = name; columns = columns; keys = places; primary = has_primary keys }

-- no column of the key is optional
abbrev pub has_no_option : List (List ℕ × ColumnKind) → List ℕ → Bool
has_no_option columns places = list_all (λ n. not (is_optional (kind_at columns n))) places

abbrev pub plain_shape : List ℕ → List SqlKey → List (List ℕ × ColumnKind) → List (List ℕ) → Option TableShape
plain_shape name keys columns places = if_so (list_all (has_no_option columns) places) (Some (shape_with name keys columns places))

-- a key has no column twice and no optional one
abbrev pub keyed_shape : List ℕ → List SqlKey → List (List ℕ × ColumnKind) → List (List ℕ) → Option TableShape
keyed_shape name keys columns places = if_so (list_all (λ k. is_none (repeated nat_eq k)) places) (plain_shape name keys columns places)

abbrev pub columns_shape : List ℕ → List SqlKey → List (List ℕ × ColumnKind) → Option TableShape
columns_shape name keys columns = if_so (is_none (repeated bytes_eq (map (λ c. c.0) columns))) (option_and_then (keyed_shape name keys columns) (all_of (key_of columns) keys))

-- the table of that name, of that type and with these keys
abbrev pub shape_out : List ℕ → List SqlKey → NormalType → Option TableShape
shape_out name keys t = option_and_then (λ row. option_and_then (columns_shape name keys) (all_of column_from row)) (record_row (normal.Type t))

abbrev pub with_shape : Sofar → TableShape → Sofar
with_shape z shape = record z { place = with_table shape z.place }

abbrev pub table_out : ℕ → List ℕ → Con → Option (List (List ℕ)) → List Constraint → Sofar → Option Sofar
table_out most x c primary cs z = option_map (with_shape z) (option_and_then (shape_out (full_name z x) (written_keys primary cs)) (small_type most (nf (env_at z.place) c)))

abbrev pub with_named_sequence : List ℕ → Sofar → Sofar
with_named_sequence x z = record z { place = with_sequence x z.place; sequences = z.sequences ++ full_name z x ∷ [] }

abbrev pub with_named_cookie : List ℕ → Sofar → ColumnKind → Sofar
with_named_cookie x z k = record z { place = with_cookie x z.place; cookies = z.cookies ++ (full_name z x, k) ∷ [] }

abbrev pub cookie_out : ℕ → List ℕ → Con → Sofar → Option Sofar
cookie_out most x c z = option_map (with_named_cookie x z) (option_and_then type_kind (small_type most (nf (env_at z.place) c)))

-- ---- heads of functions and `val`s

-- constructor parameters, with the names behind them
abbrev pub ConParams : Type 0
ConParams = Names × List ConParam

abbrev pub and_con : ConParam → ConParams → ConParams
and_con p ps = (ps.0, p ∷ ps.1)

abbrev pub small_row : ℕ → Normal → Option (List Part)
small_row most n = if_so (nat_le (nodes n) most) (Some (as_row n))

abbrev pub con_params_out : ℕ → Names → List WrittenConParam → Option ConParams
con_params_out most names [] = Some (names, [])
con_params_out most names (written_con.Kinded x k ∷ ps) = option_map (and_con (con_param.Kinded k)) (con_params_out most (with_con x k names) ps)
con_params_out most names (written_con.Disjoint c d ∷ ps) =
    option_and_then (λ r. option_and_then (λ s. option_map (and_con (con_param.Apart r s)) (con_params_out most names ps)) (small_row most (nf names.cons d))) (small_row most (nf names.cons c))

abbrev pub all_params_out : ℕ → Names → List WrittenParam → Option Params
all_params_out most names [] = Some no_params
all_params_out most names (p ∷ ps) = option_and_then (λ q. option_map (and_params q) (all_params_out most names ps)) (param_out most names p)

-- a head, and the names in scope of its body
pub record Heading : Type 0 where
  pub names : Names
  pub head : Head

abbrev pub heading : ConParams → Params → NormalType → Heading
heading c ps t = record { names = record { cons = c.0.cons; locals = ps.0 }; head = record { cons = c.1; params = ps.1; result = t } }

-- rows that are to be apart are rows
abbrev pub con_param_fits : Env → ConParam → Bool
con_param_fits env (con_param.Kinded k) = true
con_param_fits env (con_param.Apart r s) = row_is_in (variables env) r && row_is_in (variables env) s

-- a head that may be written: its result has no type with an arrow
abbrev pub head_fits : Head → Bool
head_fits h = list_all (con_param_fits (within_head h)) h.cons && (are_params (within_head h) h.params && (is_type (within_head h) h.result && not (holds_arrow h.result)))

abbrev pub fitting : Heading → Option Heading
fitting h = if_so (head_fits h.head) (Some h)

abbrev pub resulting : ℕ → FunDef → ConParams → Params → Option Heading
resulting most f c ps = option_map (heading c ps) (small_type most (nf c.0.cons f.result))

-- the head of a function as it is written
abbrev pub written_heading : ℕ → Names → FunDef → Option Heading
written_heading most names f = option_and_then (λ c. option_and_then (resulting most f c) (all_params_out most c.0 f.params)) (con_params_out most names f.con_params)

abbrev pub heading_out : ℕ → Names → FunDef → Option Heading
heading_out most names f = option_and_then fitting (written_heading most names f)

abbrev pub with_head : ℕ → FunDef → Sofar → Heading → Sofar
with_head home f z h = record z { place = with_function f.name z.place; functions = z.functions ++ record { «module» = home; name = f.name; head = h.head } ∷ [] }

-- the functions of a group see one another: all their heads come first
abbrev pub headings_out : ℕ → ℕ → List FunDef → Sofar → Option Sofar
headings_out most home [] z = Some z
headings_out most home (f ∷ fs) z = option_and_then (λ h. headings_out most home fs (with_head home f z h)) (heading_out most (names_at z.place) f)

abbrev pub val_type_out : ℕ → Con → Sofar → Option NormalType
val_type_out most c z = option_and_then (λ t. if_so (is_type nothing_in_scope t && is_placed t) (Some t)) (small_type most (nf (env_at z.place) c))

abbrev pub with_val_of : List ℕ → Sofar → NormalType → Sofar
with_val_of x z t = record z { place = with_val x z.place; vals = z.vals ++ t ∷ [] }

-- what is declared behind a declaration of module number `home`
abbrev pub decl_out : ℕ → ℕ → DeclForm → Sofar → Option Sofar
decl_out most home (decl.Con x k c) z = defined_out most x k c z
decl_out most home (decl.Type x c) z = defined_out most x kind.Star c z
decl_out most home (decl.Datatype x vs) z = variants_out most z.place.datatypes vs (with_datatype home x z)
decl_out most home (decl.Table x c primary cs) z = table_out most x c primary cs z
decl_out most home (decl.Sequence x) z = Some (with_named_sequence x z)
decl_out most home (decl.Cookie x c) z = cookie_out most x c z
decl_out most home (decl.Val x c e) z = option_map (with_val_of x z) (val_type_out most c z)
decl_out most home (decl.Fun fs) z = headings_out most home fs z

-- ---- bodies

-- the bodies of functions and of `val`s, and the statements in them
pub record Bodies : Type 0 where
  pub functions : List Exp
  pub vals : List Exp
  pub sites : Sites

abbrev pub no_bodies : Bodies
no_bodies = record { functions = []; vals = []; sites = record { queries = []; changes = [] } }

abbrev pub body_scope : Heading → Scope
body_scope h = record { names = h.names; env = within_body h.head }

abbrev pub with_body : Bodies → Out → Bodies
with_body b o = record { functions = b.functions ++ o.exp ∷ []; vals = b.vals; sites = o.sites }

abbrev pub with_val_body : Bodies → Out → Bodies
with_val_body b o = record { functions = b.functions; vals = b.vals ++ o.exp ∷ []; sites = o.sites }

-- the body of a function whose head is told, behind the heads of its group
abbrev pub body_out : ℕ → Sofar → FunDef → Bodies → Heading → Option Bodies
body_out most z f b h = option_map (with_body b) (typed (world_behind most z) f.body.form (body_scope h) b.sites (wants h.head.result))

abbrev pub group_out : ℕ → Sofar → List FunDef → Bodies → Option Bodies
group_out most z [] b = Some b
group_out most z (f ∷ fs) b = option_and_then (group_out most z fs) (option_and_then (body_out most z f b) (heading_out most (names_at z.place) f))

-- the right side of a `val` is static
abbrev pub val_body_out : ℕ → Sofar → ExpForm → Bodies → NormalType → Option Bodies
val_body_out most z e b t = option_and_then (λ o. if_so (is_static o.exp) (Some (with_val_body b o))) (typed (world_behind most z) e (top_scope z) b.sites (wants t))

-- the bodies of a declaration; what is declared before it is `z`, and `after` is what is declared behind it
abbrev pub bodies_out : ℕ → DeclForm → Sofar → Sofar → Bodies → Option Bodies
bodies_out most (decl.Val x c e) z after b = option_and_then (val_body_out most z e.form b) (val_type_out most c z)
bodies_out most (decl.Fun fs) z after b = group_out most after fs b
bodies_out most _ z after b = Some b

-- ---- modules

abbrev pub Checked : Type 0
Checked = Sofar × Bodies

abbrev pub decls_out : ℕ → ℕ → List Decl → Checked → Option Checked
decls_out most home [] p = Some p
decls_out most home (d ∷ ds) p = option_and_then (λ after. option_and_then (λ b. decls_out most home ds (after, b)) (bodies_out most d.form p.0 after p.1)) (decl_out most home d.form p.0)

abbrev pub entered : List ℕ → Checked → Checked
entered m p = (record p.0 { place = enter m p.0.place }, p.1)

abbrev pub modules_out : ℕ → ℕ → List (List ℕ) → List Module → Checked → Option Checked
modules_out most n (m ∷ names) (x ∷ modules) p = option_and_then (modules_out most (n + 1) names modules) (decls_out most n x.decls (entered m p))
modules_out most n _ _ p = Some p

-- ---- entries

abbrev pub is_entry : Head → Bool
is_entry h = is_page h && are_linkable (types_of h.params)

-- a name of the signature stands for a function of that type which is an entry
abbrev pub is_signed : Sofar → Con → Head → Bool
is_signed z c h = same_type (function_type h) (as_type (nf (env_at z.place) c)) && is_entry h

abbrev pub entry_by : ℕ → Sofar → Con → Option here.Declared → Option ℕ
entry_by most z c (Some (here.function f)) = if_so (nat_le (nodes (nf (env_at z.place) c)) most) (option_and_then (λ g. if_so (is_signed z c g.head) (Some f)) (slice_get z.functions f))
entry_by most z c _ = None

abbrev pub entry_out : ℕ → Sofar → ValDecl → Option ℕ
entry_out most z v = entry_by most z v.con (looked_up (at z.place v.name) z.place.globals.values)

-- the page functions of a module with linkable parameters, from this number on
abbrev pub if_entry : Bool → ℕ → List ℕ → List ℕ
if_entry true n rest = n ∷ rest
if_entry false n rest = rest

abbrev pub entries_of : ℕ → ℕ → List FunctionHead → List ℕ
entries_of main n [] = []
entries_of main n (f ∷ fs) = if_entry (nat_eq f.«module» main && is_entry f.head) n (entries_of main (n + 1) fs)

-- the entries: the names of the signature, or else those page functions of the main module
abbrev pub entries_out : ℕ → Sofar → ℕ → Option Signature → Option (List ℕ)
entries_out most z main (Some s) = all_of (entry_out most z) s.vals
entries_out most z main None = Some (entries_of main 0 z.functions)

-- the whole project: what it declares, its bodies, and the numbers of its entries
abbrev pub ended : Checked → List ℕ → Checked × List ℕ
ended p entries = (p, entries)

abbrev pub project_out : ℕ → Checked → List (List ℕ) → List Module → Option Signature → Option (Checked × List ℕ)
project_out most start names modules signature = option_and_then (λ p. option_map (ended p) (entries_out most p.0 (pred (length names)) signature)) (modules_out most 0 names modules start)

-- before the first module
abbrev pub nothing_yet : Place → Checked
nothing_yet p = (record { place = p; datatypes = []; variants = []; vals = []; functions = []; cookies = []; sequences = [] }, no_bodies)
