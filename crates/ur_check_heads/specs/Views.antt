-- What the code holds of a project, as the definitions see what is declared so far and what the body of a function sees.
use Rattle.std.specs.Prelude.{◌≡◌, ℕ, ⊤, List, [], ◌∷◌, map, length, Option, Some, None}
use Rattle.ur_base.specs.Stopping.{Says}
use Rattle.ur_base.specs.declared.refusal.Stop.{Stop}
use Rattle.ur_base.specs.declared.refusal.Stop.TheVariants as stop
use Rattle.ur_syntax.specs.declared.con.ConEntry.{ConEntry}
use Rattle.ur_syntax.specs.declared.con.ConEnv.{ConEnv}
use Rattle.ur_syntax.specs.declared.con.ConParam.{ConParam as WrittenConParam}
use Rattle.ur_syntax.specs.declared.con.ConParam.TheVariants as written_con
use Rattle.ur_syntax.specs.declared.exp.Param.{Param as WrittenParam}
use Rattle.ur_syntax.specs.declared.exp.Param.TheVariants as written_param
use Rattle.ur_disjoint.specs.Tests.{pair}
use Rattle.ur_rows_normal.specs.declared.environment.Place.{Place as Reading}
use Rattle.ur_rows_normal.specs.Preparing.{Prepares, Covers}
use Rattle.ur_tree.specs.declared.exp.Param.{Param}
use Rattle.ur_tree.specs.declared.typed.ConParam.{ConParam}
use Rattle.ur_tree.specs.Env.{kinds_of, rows_apart, value_types, fixed_types}
use Rattle.ur_typed_rules.specs.Names.{Names, with_con, bound_name}
use Rattle.ur_check_scopes.specs.declared.world.World.{World as Held}
use Rattle.ur_check_scopes.specs.declared.world.FunctionHead.{FunctionHead as HeldFunction}
use Rattle.ur_check_scopes.specs.declared.locals.Local.{Local as HeldLocal}
use Rattle.ur_check_scopes.specs.Views.{globals_in, head_in, local_in, of_variables, of_fixed}
use Rattle.ur_typed.specs.Project.{Place}
use Rattle.ur_typed.specs.Declaring.{Sofar, FunctionHead, Heading}
use Rattle.ur_check_heads.specs.declared.project.Project.{Project}
use Rattle.ur_check_heads.specs.declared.bodies.HeadScope.{HeadScope}
use Rattle.ur_check_heads.specs.declared.bodies.BodyScope.{BodyScope}

-- ---- what is declared so far

-- the place behind what a project declares, with these names of types
abbrev pub place_in : List ConEntry → Held → Place
place_in entries w = record {
  fields = w.env.fields;
  cons = entries;
  globals = globals_in w;
  functions = length w.functions;
  vals = length w.vals;
  datatypes = length w.datatypes;
  variants = length w.variants;
}

abbrev pub function_in : HeldFunction → FunctionHead
function_in f = record { «module» = f.«module»; name = f.name; head = head_in f.head }

abbrev pub sofar_in : List ConEntry → Held → Sofar
sofar_in entries w = record {
  place = place_in entries w;
  datatypes = w.datatypes;
  variants = w.variants;
  vals = w.vals;
  functions = map function_in w.functions;
  cookies = w.cookie_kinds;
  sequences = w.schema.sequences;
}

abbrev pub env_over : List ConEntry → Held → ConEnv
env_over entries w = record { home = w.env.home; fields = w.env.fields; entries = entries }

-- the names of types are those of declarations, each with its home
abbrev pub HasHome : ConEntry → Type 0
HasHome e = (m : List ℕ) × (e.name.home ≡ Some m)

abbrev pub HaveHomes : List ConEntry → Type 0
HaveHomes [] = ⊤
HaveHomes (e ∷ entries) = HasHome e × HaveHomes entries

-- `z` is declared so far, in module number `home`, and the project has it
pub record Sees (p : Project) (home : ℕ) (z : Sofar) : Type 0 where
  pub entries : List ConEntry
  pub held : z ≡ sofar_in entries p.world
  pub prepared : Prepares p.names (env_over entries p.world)
  pub homes : HaveHomes entries
  pub named : p.world.datatype_names ≡ map (λ d. d.name) p.world.datatypes
  pub number : p.world.«module» ≡ home

-- what is declared behind a declaration, which may stand, is what the project has
abbrev pub Comes : Project → ℕ → Option Sofar → Type 0
Comes p home None = ⊥
Comes p home (Some z) = Sees p home z

-- ---- scopes of functions

-- the names behind constructor parameters
abbrev pub names_after : List WrittenConParam → Names → Names
names_after [] names = names
names_after (written_con.Kinded x k ∷ ps) names = names_after ps (with_con x k names)
names_after (written_con.Disjoint c d ∷ ps) names = names_after ps names

-- what a written parameter binds, where its type is that of the parameter
abbrev pub written_name : WrittenParam → Option (List ℕ)
written_name (written_param.Value x c) = bound_name x
written_name written_param.Unit = None

abbrev pub written_local : WrittenParam → Param → HeldLocal
written_local w p = record { name = written_name w; fixed = p.fixed; of = p.of }

abbrev pub written_locals : List WrittenParam → List Param → List HeldLocal
written_locals (w ∷ ws) (p ∷ ps) = written_local w p ∷ written_locals ws ps
written_locals _ _ = []

-- the kinds of constructor parameters, and the rows among them that are to be apart
pub record IsHeadScope (s : HeadScope) (cons : List ConParam) : Type 0 where
  pub kinds : kinds_of cons ≡ s.kinds
  pub known : rows_apart cons ≡ map pair s.known

-- what the body of a function with this head sees, over the names of a place
pub record IsBodyScope (s : BodyScope) (p : Reading) (h : Heading) : Type 0 where
  pub names : Covers s.names p h.names.cons
  pub cons : IsHeadScope s.cons h.head.cons
  pub locals : h.names.locals ≡ map local_in s.locals
  pub values : value_types h.head.params ≡ of_variables s.locals
  pub fixed : fixed_types h.head.params ≡ of_fixed s.locals

-- ---- what stops

-- a stop has the code and the texts of another
abbrev pub SaysAs : Stop → Stop → Type 0
SaysAs (stop.Refused r) (stop.Refused s) = Says s r.code r.left r.right
SaysAs stop.Memory stop.Memory = ⊤
SaysAs _ _ = ⊥
