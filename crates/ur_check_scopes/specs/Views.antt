-- What the code holds of a project and of a scope, as the definitions of typing see it.
use Rattle.std.specs.Prelude.{◌≡◌, ℕ, ◌+◌, ⊤, true, false, if◌then◌else◌, List, [], ◌∷◌, ◌++◌, map, length, Option, Some, None, slice_get, codes}
use Rattle.ur_rows.specs.Nodes.{most_nodes}
use Rattle.ur_base.specs.Stopping.{Says}
use Rattle.ur_base.specs.declared.refusal.Refusal.{Refusal}
use Rattle.ur_base.specs.declared.refusal.Stop.{Stop}
use Rattle.ur_base.specs.declared.refusal.Stop.TheVariants as stop
use Rattle.ur_syntax.specs.declared.con.ConName.{ConName}
use Rattle.ur_rows.specs.declared.normal.NormalType.{NormalType}
use Rattle.ur_disjoint.specs.Tests.{pair}
use Rattle.ur_rows_normal.specs.Preparing.{Reads}
use Rattle.ur_tree.specs.Heads.{Head, Declared}
use Rattle.ur_tree.specs.declared.exp.Param.{Param}
use Rattle.ur_tree.specs.Env.{Env}
use Rattle.ur_typed_rules.specs.Names.{Local, Declared as DeclaredAs, function, val, Globals, local_from}
use Rattle.ur_typed_rules.specs.Names as here
use Rattle.ur_typed_rules.specs.Scopes.{World, Scope, Mode, finds, wants, of_result}
use Rattle.ur_typed_rules.specs.Faults.{Fault, TellsType}
use Rattle.ur_check_scopes.specs.declared.names.Means.{Means}
use Rattle.ur_check_scopes.specs.declared.names.Means.TheVariants as means
use Rattle.ur_check_scopes.specs.declared.names.Key.{Key}
use Rattle.ur_check_scopes.specs.declared.names.Key.TheVariants as key
use Rattle.ur_check_scopes.specs.declared.names.Named.{Named}
use Rattle.ur_check_scopes.specs.declared.world.World.{World as Held}
use Rattle.ur_check_scopes.specs.declared.world.Head.{Head as HeldHead}
use Rattle.ur_check_scopes.specs.declared.locals.Local.{Local as HeldLocal}
use Rattle.ur_check_scopes.specs.declared.locals.Locals.{Locals}
use Rattle.ur_check_scopes.specs.declared.locals.Locals.TheVariants as locals
use Rattle.ur_check_scopes.specs.declared.locals.Place.{Place}
use Rattle.ur_check_scopes.specs.declared.locals.Place.TheVariants as place
use Rattle.ur_check_scopes.specs.declared.around.Around.{Around}
use Rattle.ur_check_scopes.specs.declared.around.Cons.{Cons}

-- ---- names of declarations

abbrev pub means_in : Means → DeclaredAs
means_in (means.Function n) = function n
means_in (means.Val n) = val n

abbrev pub name_in : {A : Type 0} → Named A → ConName
name_in n = record { home = Some n.home; name = n.name }

-- names in order of declaration, over those before them, the latest first
abbrev pub names_onto : {A B : Type 0} → (A → B) → List (Named A) → List (ConName × B) → List (ConName × B)
names_onto f [] names = names
names_onto f (n ∷ ns) names = names_onto f ns ((name_in n, f n.of) ∷ names)

abbrev pub names_in : {A B : Type 0} → (A → B) → List (Named A) → List (ConName × B)
names_in f ns = names_onto f ns []

abbrev pub itself : {A : Type 0} → A → A
itself a = a

abbrev pub key_in : Key → ConName
key_in (key.Own x) = record { home = None; name = x.now }
key_in (key.Member m x) = record { home = Some m.now; name = x.now }

-- ---- what a project declares

abbrev pub globals_in : Held → Globals
globals_in w = record {
  home = w.env.home;
  values = names_in means_in w.values;
  constructors = names_in itself w.constructors;
  sequences = names_in itself w.sequences;
  cookies = names_in itself w.cookies;
  tables = record { tables = w.schema.tables; sequences = [] };
}

abbrev pub head_in : HeldHead → Head
head_in h = record { cons = h.cons; params = h.params; result = h.result }

abbrev pub declared_in : Held → Declared
declared_in w = record {
  variants = map (λ v. (v.datatype, v.arg)) w.variants;
  cookies = map (λ c. c.1) w.cookie_kinds;
  vals = w.vals;
  functions = map (λ f. head_in f.head) w.functions;
  sequences = length w.schema.sequences;
  queries = [];
  changes = [];
}

abbrev pub world_in : Held → World
world_in w = record { globals = globals_in w; declared = declared_in w; fields = w.env.fields; most = most_nodes }

-- ---- names that expressions bind

abbrev pub local_in : HeldLocal → Local
local_in l = if l.fixed then here.static l.name else here.value l.name

abbrev pub param_in : HeldLocal → Param
param_in l = record { fixed = l.fixed; of = l.of }

abbrev pub of_fixed : List HeldLocal → List NormalType
of_fixed [] = []
of_fixed (l ∷ ls) = if l.fixed then l.of ∷ of_fixed ls else of_fixed ls

abbrev pub of_variables : List HeldLocal → List NormalType
of_variables [] = []
of_variables (l ∷ ls) = if l.fixed then of_variables ls else l.of ∷ of_variables ls

-- the names of all binders around
abbrev pub locals_in : Locals → List Local
locals_in locals.Nothing = []
locals_in (locals.Bound' own _ rest) = map local_in own.now ++ locals_in rest
locals_in (locals.Lambda' own _ rest) = map local_in own.now ++ locals_in rest

-- the types of the variables among them that no lambda hides
abbrev pub values_in : Locals → List NormalType
values_in locals.Nothing = []
values_in (locals.Bound' own _ rest) = of_variables own.now ++ values_in rest
values_in (locals.Lambda' own _ rest) = of_variables own.now

-- the types of the static names among them
abbrev pub fixed_in : Locals → List NormalType
fixed_in locals.Nothing = []
fixed_in (locals.Bound' own _ rest) = of_fixed own.now ++ fixed_in rest
fixed_in (locals.Lambda' own _ rest) = of_fixed own.now ++ fixed_in rest

-- What a name stands for, among names before which so many variables and static names stand: its place, and its type where
-- no lambda hides it.
abbrev pub StandsFor : List ℕ → ℕ → ℕ → List Local → List NormalType → List NormalType → Option Place → Type 0
StandsFor x v f names values fixed None = local_from x v f names ≡ None
StandsFor x v f names values fixed (Some (place.Variable n t)) = (k : ℕ) × (n ≡ v + k) × (local_from x v f names ≡ Some (false, n)) × (slice_get values k ≡ Some t.now)
StandsFor x v f names values fixed (Some (place.Fixed n t)) = (k : ℕ) × (n ≡ f + k) × (local_from x v f names ≡ Some (true, n)) × (slice_get fixed k ≡ Some t.now)
StandsFor x v f names values fixed (Some place.Hidden) = (k : ℕ) × (local_from x v f names ≡ Some (false, v + k)) × (slice_get values k ≡ None)

-- ---- scopes

-- the kinds of the constructor variables and the rows that are apart, without names of expressions
abbrev pub env_in : Cons → Env
env_in c = record { kinds = c.kinds.now; known = map pair c.known.now; values = []; fixed = [] }

-- The code stands where the definitions say: in that world and in that scope.
pub record Stands (a : Around) (w : World) (s : Scope) : Type 0 where
  pub world : w ≡ world_in a.world.now
  pub cons : Reads a.scope.cons.names s.names.cons
  pub kinds : s.env.kinds ≡ a.scope.cons.kinds.now
  pub known : s.env.known ≡ map pair a.scope.cons.known.now
  pub locals : s.names.locals ≡ locals_in a.scope.locals
  pub values : s.env.values ≡ values_in a.scope.locals
  pub fixed : s.env.fixed ≡ fixed_in a.scope.locals

abbrev pub mode_of : Option NormalType → Mode
mode_of None = finds
mode_of (Some t) = wants t

-- behind one parameter
abbrev pub behind_one : Mode → Mode
behind_one m = of_result {A = ℕ} (0 ∷ []) m

-- ---- what stops

-- a refusal tells a fault of which this is known
abbrev pub Refuses : List (List ℕ) → (Fault → Type 0) → Refusal → Type 0
Refuses names P r = (f : Fault) × P f × TellsType names r f

-- a refusal tells a fault of which this is known
abbrev pub StopTells : List (List ℕ) → (Fault → Type 0) → Stop → Type 0
StopTells names P (stop.Refused r) = Refuses names P r
StopTells names P stop.Memory = ⊤

-- the refusal tells just this fault
abbrev pub StopIs : List (List ℕ) → Fault → Stop → Type 0
StopIs names f (stop.Refused r) = TellsType names r f
StopIs names f stop.Memory = ⊤

-- the refusal has this code and these texts
abbrev pub StopSays : ℕ → List ℕ → List ℕ → Stop → Type 0
StopSays code left right (stop.Refused r) = Says r code left right
StopSays code left right stop.Memory = ⊤

-- a normal form is too large
abbrev pub IsLarge : Refusal → Type 0
IsLarge r = Says r 16 (codes "65537") (codes "65536")
