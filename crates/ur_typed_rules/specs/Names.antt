-- Names in scope where an expression stands.
use Rattle.std.specs.Prelude.{AllPairs, ◌≡◌, ℕ, ◌+◌, ◌≤◌, Bool, true, false, if◌then◌else◌, List, [], ◌∷◌, ◌++◌, Option, Some, None, bytes_eq}
use Rattle.ur_syntax.specs.declared.kind.Kind.{Kind}
use Rattle.ur_syntax.specs.declared.con.Con.{Con}
use Rattle.ur_syntax.specs.declared.con.ConEnv.{ConEnv}
use Rattle.ur_syntax.specs.declared.con.ConMeaning.TheVariants as meaning
use Rattle.ur_syntax.specs.declared.con.ConName.{ConName}
use Rattle.ur_syntax.specs.declared.con.FieldName.{FieldName}
use Rattle.ur_syntax.specs.Names.{own, seen}
use Rattle.ur_syntax.specs.declared.exp.Binder.{Binder}
use Rattle.ur_syntax.specs.declared.exp.Binder.TheVariants as binder
use Rattle.ur_syntax.specs.declared.sql.DeclName.{DeclName}
use Rattle.ur_rows.specs.Types.{holds_arrow}
use Rattle.ur_tree.specs.declared.exp.Param.{Param}
use Rattle.ur_values.specs.declared.schema.Schema.{Schema}
use Rattle.ur_rows.specs.declared.normal.Normal.{Normal}
use Rattle.ur_rows.specs.declared.normal.Label.{Label}
use Rattle.ur_rows.specs.declared.normal.NormalType.{NormalType}
use Rattle.ur_rows.specs.declared.normal.Part.{Part}
use Rattle.ur_rows.specs.Normal.{nf, known_in, label_of}
use Rattle.ur_rows.specs.Nodes.{nodes}
use Rattle.ur_rows.specs.Put.{as_type, as_row}

-- a name that an expression binds, for a variable or for a static expression; `_` has none
pub data Local : Type 0 where
  value : Option (List ℕ) → Local
  static : Option (List ℕ) → Local

-- what a declared name of an expression stands for, by its number
pub data Declared : Type 0 where
  function : ℕ → Declared
  val : ℕ → Declared

-- The declared names that module `home` sees, each with its home, the latest first.
pub record Globals : Type 0 where
  pub home : List ℕ
  pub values : List (ConName × Declared)
  pub constructors : List (ConName × ℕ)
  pub sequences : List (ConName × ℕ)
  pub cookies : List (ConName × ℕ)
  pub tables : Schema

abbrev pub declared : {A : Type 0} → Globals → ConName → List (ConName × A) → Option A
declared g x names = seen g.home x names

-- the constructors in scope, and the names that expressions bind, the nearest first
pub record Names : Type 0 where
  pub cons : ConEnv
  pub locals : List Local

abbrev pub is_named : List ℕ → Option (List ℕ) → Bool
is_named x None = false
is_named x (Some y) = bytes_eq x y

-- the nearest local of that name, by its place among the variables or among the static names
abbrev pub local_from : List ℕ → ℕ → ℕ → List Local → Option (Bool × ℕ)
local_from x v f [] = None
local_from x v f (value y ∷ locals) = if is_named x y then Some (false, v) else local_from x (v + 1) f locals
local_from x v f (static y ∷ locals) = if is_named x y then Some (true, f) else local_from x v (f + 1) locals

abbrev pub local_at : List ℕ → List Local → Option (Bool × ℕ)
local_at x locals = local_from x 0 0 locals

-- with one constructor variable more
abbrev pub with_con : List ℕ → Kind → Names → Names
with_con x k names = record { cons = record names.cons { entries = names.cons.entries ++ record { name = own x; kind = k; meaning = meaning.Variable } ∷ [] }; locals = names.locals }

abbrev pub with_local : Local → Names → Names
with_local l names = record { cons = names.cons; locals = l ∷ names.locals }

abbrev pub with_locals : List Local → Names → Names
with_locals ls names = record { cons = names.cons; locals = ls ++ names.locals }

-- The written constructor has this normal form, of at most `most` nodes. That its names are in scope and that it has its kind is said of
-- the whole project (ur_names, ur_kinds).
pub record IsWritten (most : ℕ) (env : ConEnv) (c : Con) (n : Normal) : Type 0 where
  pub form : n ≡ nf env c
  pub small : nodes n ≤ most

-- the type, the row, or the label that is written
abbrev pub WritesType : ℕ → ConEnv → Con → NormalType → Type 0
WritesType most env c t = (n : Normal) × IsWritten most env c n × (t ≡ as_type n)

abbrev pub WritesRow : ℕ → ConEnv → Con → List Part → Type 0
WritesRow most env c r = (n : Normal) × IsWritten most env c n × (r ≡ as_row n)

abbrev pub WritesLabel : ConEnv → FieldName → Label → Type 0
WritesLabel env x l = l ≡ label_of (known_in env) x

-- the names of locals are distinct
pub data Binds : Local → List ℕ → Type 0 where
  binds_value : {x : List ℕ} → Binds (value (Some x)) x
  binds_static : {x : List ℕ} → Binds (static (Some x)) x

abbrev pub AreDistinct : List Local → Type 0
AreDistinct ls = AllPairs (λ l k. (x : List ℕ) → Binds l x → Binds k x → ⊥) ls

-- a name of a table, sequence or cookie as that of an expression
abbrev pub name_of : DeclName → ConName
name_of x = record { home = x.«module»; name = x.name }

abbrev pub bound_name : Binder → Option (List ℕ)
bound_name binder.Ignored = None
bound_name (binder.Named x) = Some x

-- a parameter is static where its type holds an arrow
abbrev pub local_of : Option (List ℕ) → NormalType → Local
local_of x t = if holds_arrow t then static x else value x

abbrev pub param_of : NormalType → Param
param_of t = record { fixed = holds_arrow t; of = t }
