-- The typed source of a project.
use Rattle.std.specs.Prelude.{◌≡◌, ◌+◌, ℕ, Bool, true, false, List, [], ◌∷◌, ◌++◌, map, length, Option, Some, None, slice_get}
use Rattle.ur_syntax.specs.declared.con.Con.{Con}
use Rattle.ur_syntax.specs.declared.con.ConEnv.{ConEnv}
use Rattle.ur_syntax.specs.declared.con.ConEntry.{ConEntry}
use Rattle.ur_syntax.specs.declared.con.ConMeaning.{ConMeaning}
use Rattle.ur_syntax.specs.declared.con.ConMeaning.TheVariants as meaning
use Rattle.ur_syntax.specs.declared.con.ConName.{ConName}
use Rattle.ur_syntax.specs.declared.con.ConParam.{ConParam as WrittenConParam}
use Rattle.ur_syntax.specs.declared.con.ConParam.TheVariants as written_con
use Rattle.ur_syntax.specs.declared.kind.Kind.{Kind}
use Rattle.ur_syntax.specs.declared.kind.Kind.TheVariants as kind
use Rattle.ur_syntax.specs.Names.{name_text}
use Rattle.ur_syntax.specs.declared.decl.Variant.{Variant as WrittenVariant}
use Rattle.ur_syntax.specs.declared.decl.Constraint.{Constraint}
use Rattle.ur_syntax.specs.declared.decl.FunDef.{FunDef}
use Rattle.ur_syntax.specs.declared.decl.Decl.{Decl}
use Rattle.ur_syntax.specs.declared.decl.DeclForm.{DeclForm}
use Rattle.ur_syntax.specs.declared.decl.DeclForm.TheVariants as decl
use Rattle.ur_syntax.specs.declared.decl.Module.{Module}
use Rattle.ur_syntax.specs.declared.exp.Exp.{Exp as WrittenExp}
use Rattle.ur_syntax.specs.declared.exp.Param.{Param as WrittenParam}
use Rattle.ur_values.specs.declared.schema.ColumnKind.{ColumnKind}
use Rattle.ur_values.specs.declared.schema.TableShape.{TableShape}
use Rattle.ur_values.specs.Kinds.{inside}
use Rattle.ur_rows.specs.declared.normal.Normal.{Normal}
use Rattle.ur_rows.specs.declared.normal.NormalType.{NormalType}
use Rattle.ur_rows.specs.declared.normal.Part.{Part}
use Rattle.ur_tree.specs.declared.exp.Param.{Param}
use Rattle.ur_tree.specs.declared.typed.Typed.{Typed}
use Rattle.ur_tree.specs.declared.typed.Function.{Function}
use Rattle.ur_tree.specs.declared.typed.ConParam.{ConParam}
use Rattle.ur_tree.specs.declared.typed.ConParam.TheVariants as con_param
use Rattle.ur_tree.specs.declared.typed.ModuleVal.{ModuleVal}
use Rattle.ur_tree.specs.Scalars.{kind_type}
use Rattle.ur_tree.specs.Env.{con_is_apart}
use Rattle.ur_tree.specs.App.{nothing_in_scope}
use Rattle.ur_tree.specs.Heads.{declared_of}
use Rattle.ur_sqltype.specs.declared.keys.SqlKey.{SqlKey}
use Rattle.ur_rows.specs.declared.normal.Normal.TheVariants as normal
use Rattle.ur_sqltype.specs.Table.{IsTable}
use Rattle.ur_typed_rules.specs.Names.{Local, Globals, Names, with_con, IsWritten, WritesType, WritesRow}
use Rattle.ur_typed_rules.specs.Names as here
use Rattle.ur_typed.specs.Resolves.{IsParam, Statements, Resolves}

-- What a place in the project sees: the names of the project's fields, the constructors and the names of expressions,
-- and how many functions, `val`s, datatypes, and constructors of datatypes were declared before it.
pub record Place : Type 0 where
  pub fields : List (List ℕ)
  pub cons : List ConEntry
  pub globals : Globals
  pub functions : ℕ
  pub vals : ℕ
  pub datatypes : ℕ
  pub variants : ℕ

abbrev pub env_at : Place → ConEnv
env_at p = record { home = p.globals.home; fields = p.fields; entries = p.cons }

abbrev pub names_at : Place → Names
names_at p = record { cons = env_at p; locals = [] }

-- a name that is declared in this module
abbrev pub at : Place → List ℕ → ConName
at p x = record { home = Some p.globals.home; name = x }

abbrev pub with_entry : List ℕ → Kind → ConMeaning → Place → Place
with_entry x k m p = record p { cons = p.cons ++ record { name = at p x; kind = k; meaning = m } ∷ [] }

abbrev pub with_function : List ℕ → Place → Place
with_function x p = record p { functions = p.functions + 1; globals = record p.globals { values = (at p x, here.function p.functions) ∷ p.globals.values } }

abbrev pub with_val : List ℕ → Place → Place
with_val x p = record p { vals = p.vals + 1; globals = record p.globals { values = (at p x, here.val p.vals) ∷ p.globals.values } }

abbrev pub with_variant : List ℕ → Place → Place
with_variant x p = record p { variants = p.variants + 1; globals = record p.globals { constructors = (at p x, p.variants) ∷ p.globals.constructors } }

abbrev pub with_table : TableShape → Place → Place
with_table shape p = record p { globals = record p.globals { tables = record p.globals.tables { tables = p.globals.tables.tables ++ shape ∷ [] } } }

abbrev pub with_sequence : List ℕ → Place → Place
with_sequence x p = record p { globals = record p.globals { sequences = (at p x, length p.globals.sequences) ∷ p.globals.sequences } }

abbrev pub with_cookie : List ℕ → Place → Place
with_cookie x p = record p { globals = record p.globals { cookies = (at p x, length p.globals.cookies) ∷ p.globals.cookies } }

abbrev pub statements : Typed → Statements
statements app = record { names = app.names; queries = app.queries; changes = app.changes }

-- ---- functions

-- constructor parameters, with the scope behind them
pub data AreConParams (most : ℕ) : Names → List WrittenConParam → Names → List ConParam → Type 0 where
  none : {names : Names} → AreConParams most names [] names []
  kinded : {names after : Names} {x : List ℕ} {k : Kind} {cons : List WrittenConParam} {out : List ConParam} →
      AreConParams most (with_con x k names) cons after out → AreConParams most names (written_con.Kinded x k ∷ cons) after (con_param.Kinded k ∷ out)
  apart : {names after : Names} {c d : Con} {r s : List Part} {cons : List WrittenConParam} {out : List ConParam} → WritesRow most names.cons c r → WritesRow most names.cons d s →
      AreConParams most names cons after out → AreConParams most names (written_con.Disjoint c d ∷ cons) after (con_param.Apart r s ∷ out)

pub data AreParams (most : ℕ) (names : Names) : List WrittenParam → List Local → List Param → Type 0 where
  none : AreParams most names [] [] []
  one : {p : WrittenParam} {l : Local} {q : Param} {params : List WrittenParam} {ls : List Local} {out : List Param} → IsParam most names p l q → AreParams most names params ls out →
      AreParams most names (p ∷ params) (l ∷ ls) (q ∷ out)

pub record FunctionResolves (app : Typed) (most : ℕ) (home : ℕ) (p : Place) (f : FunDef) (d : Function) : Type 0 where
  pub after : Names
  pub locals : List Local
  pub cons : AreConParams most (names_at p) f.con_params after d.cons
  pub params : AreParams most after f.params locals d.params
  pub result : WritesType most after.cons f.result d.result
  pub body : Resolves (statements app) most p.globals (declared_of app) (record { cons = after.cons; locals = locals }) f.body.form d.body
  pub name : d.name ≡ f.name
  pub place : d.«module» ≡ home

-- the functions of a group see one another
pub data AreNamed : Place → List FunDef → Place → Type 0 where
  none : {p : Place} → AreNamed p [] p
  one : {p q : Place} {f : FunDef} {fs : List FunDef} → AreNamed (with_function f.name p) fs q → AreNamed p (f ∷ fs) q

pub data FunctionsResolve (app : Typed) (most : ℕ) (home : ℕ) (p : Place) : ℕ → List FunDef → Type 0 where
  none : {n : ℕ} → FunctionsResolve app most home p n []
  one : {n : ℕ} {f : FunDef} {d : Function} {fs : List FunDef} → slice_get app.functions n ≡ Some d → FunctionResolves app most home p f d → FunctionsResolve app most home p (n + 1) fs →
      FunctionsResolve app most home p n (f ∷ fs)

-- ---- datatypes, tables and cookies

pub data VariantsResolve (app : Typed) (most : ℕ) (datatype : ℕ) : Place → List WrittenVariant → Place → Type 0 where
  none : {p : Place} → VariantsResolve app most datatype p [] p
  plain : {p q : Place} {v : WrittenVariant} {vs : List WrittenVariant} → v.con ≡ None →
      slice_get app.variants p.variants ≡ Some (record { datatype = datatype; name = v.name; arg = None }) → VariantsResolve app most datatype (with_variant v.name p) vs q →
      VariantsResolve app most datatype p (v ∷ vs) q
  with : {p q : Place} {v : WrittenVariant} {vs : List WrittenVariant} {c : Con} {t : NormalType} → v.con ≡ Some c → WritesType most (env_at p) c t →
      slice_get app.variants p.variants ≡ Some (record { datatype = datatype; name = v.name; arg = Some t }) → VariantsResolve app most datatype (with_variant v.name p) vs q →
      VariantsResolve app most datatype p (v ∷ vs) q

-- the keys as they are written, the PRIMARY KEY first
abbrev pub written_key : Bool → List (List ℕ) → SqlKey
written_key primary columns = record { columns = columns; primary = primary }

abbrev pub written_keys : Option (List (List ℕ)) → List Constraint → List SqlKey
written_keys None cs = map (λ c. written_key false c.columns) cs
written_keys (Some columns) cs = written_key true columns ∷ map (λ c. written_key false c.columns) cs

-- ---- declarations

-- the declaration in module number `home`, and what is seen after it
pub data DeclResolves (app : Typed) (most : ℕ) (home : ℕ) : Place → DeclForm → Place → Type 0 where
  con : {p : Place} {x : List ℕ} {k : Kind} {c : Con} {n : Normal} → IsWritten most (env_at p) c n → con_is_apart nothing_in_scope n →
      DeclResolves app most home p (decl.Con x k c) (with_entry x k (meaning.Defined c) p)
  type_ : {p : Place} {x : List ℕ} {c : Con} {n : Normal} → IsWritten most (env_at p) c n → con_is_apart nothing_in_scope n →
      DeclResolves app most home p (decl.Type x c) (with_entry x kind.Star (meaning.Defined c) p)
  -- a datatype is in scope of its own constructors
  datatype : {p q : Place} {x : List ℕ} {vs : List WrittenVariant} → slice_get app.datatypes p.datatypes ≡ Some (record { «module» = home; name = x }) →
      VariantsResolve app most p.datatypes (with_entry x kind.Star (meaning.Datatype p.datatypes) (record p { datatypes = p.datatypes + 1 })) vs q → DeclResolves app most home p (decl.Datatype x vs) q
  table : {p : Place} {x m : List ℕ} {c : Con} {primary : Option (List (List ℕ))} {cs : List Constraint} {t : NormalType} {shape : TableShape} →
      WritesType most (env_at p) c t → slice_get app.modules home ≡ Some m → IsTable (name_text (Some m) x) (normal.Type t) (written_keys primary cs) shape →
      slice_get app.schema.tables (length p.globals.tables.tables) ≡ Some shape →
      DeclResolves app most home p (decl.Table x c primary cs) (with_table shape p)
  sequence : {p : Place} {x m : List ℕ} → slice_get app.modules home ≡ Some m → slice_get app.schema.sequences (length p.globals.sequences) ≡ Some (name_text (Some m) x) →
      DeclResolves app most home p (decl.Sequence x) (with_sequence x p)
  cookie : {p : Place} {x m : List ℕ} {c : Con} {k : ColumnKind} → WritesType most (env_at p) c (kind_type k) → inside k ≡ None →
      slice_get app.modules home ≡ Some m →
      slice_get app.cookies (length p.globals.cookies) ≡ Some (name_text (Some m) x, k) → DeclResolves app most home p (decl.Cookie x c) (with_cookie x p)
  val : {p : Place} {x : List ℕ} {c : Con} {e : WrittenExp} {d : ModuleVal} → WritesType most (env_at p) c d.of →
      Resolves (statements app) most p.globals (declared_of app) (names_at p) e.form d.body → slice_get app.vals p.vals ≡ Some d → DeclResolves app most home p (decl.Val x c e) (with_val x p)
  functions : {p q : Place} {fs : List FunDef} → AreNamed p fs q → FunctionsResolve app most home q p.functions fs → DeclResolves app most home p (decl.Fun fs) q

pub data DeclsResolve (app : Typed) (most : ℕ) (home : ℕ) : Place → List Decl → Place → Type 0 where
  none : {p : Place} → DeclsResolve app most home p [] p
  one : {p q r : Place} {d : Decl} {ds : List Decl} → DeclResolves app most home p d.form q → DeclsResolve app most home q ds r → DeclsResolve app most home p (d ∷ ds) r

-- ---- modules

-- the next module sees all names, each with its home
abbrev pub enter : List ℕ → Place → Place
enter m p = record p { globals = record p.globals { home = m } }

pub data ModulesResolve (app : Typed) (most : ℕ) : ℕ → Place → List (List ℕ) → List Module → Place → Type 0 where
  none : {n : ℕ} {p : Place} → ModulesResolve app most n p [] [] p
  one : {n : ℕ} {p q r : Place} {m : List ℕ} {names : List (List ℕ)} {x : Module} {modules : List Module} → slice_get app.modules n ≡ Some m → DeclsResolve app most n (enter m p) x.decls q →
      ModulesResolve app most (n + 1) q names modules r → ModulesResolve app most n p (m ∷ names) (x ∷ modules) r
