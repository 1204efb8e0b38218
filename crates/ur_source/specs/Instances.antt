-- The instances of a checked source with their first-order functions.
use Rattle.std.specs.Prelude.{◌≡◌, ℕ, List, [], ◌++◌, map, filter, not, codes, Option, Some, option_map, slice_get}
use Rattle.std.specs.List.{AllZip}
use Rattle.ur_values.specs.declared.types.ValueType.{ValueType}
use Rattle.ur_terms.specs.declared.term.Function.{Function}
use Rattle.ur_rows.specs.declared.normal.NormalType.{NormalType}
use Rattle.ur_tree.specs.declared.exp.Param.{Param}
use Rattle.ur_tree.specs.declared.typed.Typed.{Typed}
use Rattle.ur_tree.specs.declared.typed.Function as source
use Rattle.ur_tree.specs.declared.typed.Variant.{Variant}
use Rattle.ur_tree.specs.declared.closed.Closed.{Closed}
use Rattle.ur_tree.specs.declared.closed.Instance.{Instance}
use Rattle.ur_tree.specs.Env.{kinds_of}
use Rattle.ur_meaning.specs.Unfolds.{Unfolds}
use Rattle.ur_meaning.specs.Instances.{AreInstances}
use Rattle.ur_source.specs.Reading.{Names, closed_type, result_type}
use Rattle.ur_source.specs.Items.{exp, scope_of}
use Rattle.ur_source.specs.Source.{language}

-- the types of value parameters, the static ones left out
abbrev pub value_params : List Param → List NormalType
value_params ps = map (λ q. q.of) (filter (λ q. not q.fixed) ps)

-- no parameter is static
abbrev pub AreValues : List Param → Type 0
AreValues params = filter (λ q. q.fixed) params ≡ []

-- A function without constructor and static parameters. Rows that are to be apart are no parameters.
pub record IsRoot (app : Typed) (i : Instance) : Type 0 where
  pub function : source.Function
  pub is_function : slice_get app.functions i.function ≡ Some function
  pub no_cons : (kinds_of function.cons ≡ []) × (i.cons ≡ [])
  pub no_fixed : AreValues function.params × (i.fixed ≡ [])

-- the full name of a function
abbrev pub full_name : List ℕ → List ℕ → List ℕ
full_name unit_name name = unit_name ++ codes "." ++ name

-- An instance's first-order function: its name, the types of its value parameters and result, and its body.
pub record IsFunctionOf (app : Typed) (instances : List Instance) (i : Instance) (f : Function) : Type 0 where
  pub function : source.Function
  pub unit_name : List ℕ
  pub is_function : slice_get app.functions i.function ≡ Some function
  pub is_unit : slice_get app.modules (function.«module») ≡ Some unit_name
  pub name : f.name ≡ full_name unit_name function.name
  pub params : f.params ≡ map (closed_type app.names i.cons) (value_params function.params)
  pub result : (f.runs, f.result) ≡ result_type app.names i.cons function.result
  pub body : Unfolds (language app) instances (exp (scope_of i) function.body) f.body

-- a route's function, which has one instance, is that of the source
abbrev pub IsTarget : List Instance → ℕ → ℕ → Type 0
IsTarget instances function number = slice_get instances number ≡ Some (record { function = function; cons = []; fixed = [] })

abbrev pub IsVariant : Names → Variant → ℕ × Option ValueType → Type 0
IsVariant names a b = (b.0 ≡ a.datatype) × (b.1 ≡ option_map (closed_type names []) a.arg)

-- The first-order functions are those of these instances, which are all that there are.
pub record IsClosedAs (app : Typed) (closed : Closed) (instances : List Instance) : Type 0 where
  pub schema : closed.schema ≡ app.schema
  pub handlers : closed.handlers ≡ app.handlers
  pub names : closed.names ≡ app.names
  pub queries : closed.queries ≡ app.queries
  pub changes : closed.changes ≡ app.changes
  pub cookies : closed.cookies ≡ app.cookies
  pub variants : AllZip (IsVariant app.names) app.variants closed.variants
  pub instances_are : AreInstances (language app) (IsRoot app) instances
  pub functions : AllZip (IsFunctionOf app instances) instances closed.functions
  pub targets : AllZip (IsTarget instances) app.targets closed.targets

-- The instances of a checked source.
abbrev pub IsClosed : Typed → Closed → Type 0
IsClosed app closed = (instances : List Instance) × IsClosedAs app closed instances
