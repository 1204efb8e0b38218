-- The resolved source of a project is typed.
use Rattle.std.specs.Prelude.{◌≡◌, ◌<◌, ℕ, List, [], length, take, All, AllPairs, Some, None, IsTrue, IsFalse, IfSome, slice_get}
use Rattle.std.specs.List.{AllZip}
use Rattle.ur_syntax.specs.Kinds.{is_plain}
use Rattle.ur_values.specs.declared.schema.ColumnKind.{ColumnKind}
use Rattle.ur_values.specs.Kinds.{inside}
use Rattle.ur_sql.specs.Typing.{QueryFits, ChangeFits}
use Rattle.ur_tags.specs.declared.routes.Route.{Route}
use Rattle.ur_rows.specs.declared.normal.NormalType.{NormalType}
use Rattle.ur_rows.specs.Kinded.{row_is_in}
use Rattle.ur_rows.specs.Types.{holds_arrow, is_placed, is_value_type}
use Rattle.ur_tree.specs.declared.typed.Typed.{Typed}
use Rattle.ur_tree.specs.declared.typed.Function.{Function}
use Rattle.ur_tree.specs.declared.typed.ModuleVal.{ModuleVal}
use Rattle.ur_tree.specs.declared.typed.Variant.{Variant}
use Rattle.ur_tree.specs.declared.typed.ConParam.{ConParam}
use Rattle.ur_tree.specs.declared.typed.ConParam.TheVariants as con_param
use Rattle.ur_tree.specs.declared.exp.Exp.{Exp}
use Rattle.ur_tree.specs.IsStatic.{is_static}
use Rattle.ur_tree.specs.Heads.{Head, Declared, head_of, declared_of}
use Rattle.ur_tree.specs.Env.{Env, variables, value_types, fixed_types, IsType, kinds_of, rows_apart}
use Rattle.ur_tree.specs.Routes.{route_types}
use Rattle.ur_tree.specs.Typing.{AreParams, Checks, Accepts, IsPage, types_of}

-- what is in scope for the types of a function, and within its body
abbrev pub within_head : Head → Env
within_head f = record { kinds = kinds_of f.cons; known = rows_apart f.cons; values = []; fixed = [] }

abbrev pub within_body : Head → Env
within_body f = record { kinds = kinds_of f.cons; known = rows_apart f.cons; values = value_types f.params; fixed = fixed_types f.params }

abbrev pub nothing_in_scope : Env
nothing_in_scope = record { kinds = []; known = []; values = []; fixed = [] }

-- a constructor parameter is of a kind without arrows, and rows that are to be apart are rows
abbrev pub ConParamFits : Env → ConParam → Type 0
ConParamFits env (con_param.Kinded k) = IsTrue (is_plain k)
ConParamFits env (con_param.Apart r s) = IsTrue (row_is_in (variables env) r) × IsTrue (row_is_in (variables env) s)

-- a head that may be written: its result has no type with an arrow
pub record HeadFits (f : Head) : Type 0 where
  pub cons : All (ConParamFits (within_head f)) f.cons
  pub params : AreParams (within_head f) f.params
  pub result : IsType (within_head f) f.result
  pub no_arrow : IsFalse (holds_arrow f.result)

-- an expression checks against a type
abbrev pub BodyFits : Declared → ℕ → Env → Exp → NormalType → Type 0
BodyFits d most env e t = Checks d most env e t × Accepts most e t

pub record FunctionIsTyped (d : Declared) (most : ℕ) (f : Function) : Type 0 where
  pub head : HeadFits (head_of f)
  pub body : BodyFits d most (within_body (head_of f)) f.body f.result

-- a module's `val` is static and closed, and names only the `val`s before it
pub record ValIsTyped (d : Declared) (most : ℕ) (number : ℕ) (v : ModuleVal) : Type 0 where
  pub written : IsType nothing_in_scope v.of
  pub placed : IsTrue (is_placed v.of)
  pub static : IsTrue (is_static v.body)
  pub body : BodyFits (record d { vals = take number d.vals }) most nothing_in_scope v.body v.of

-- the argument of a datatype's constructor is a value
pub record VariantIsTyped (app : Typed) (v : Variant) : Type 0 where
  pub there : v.datatype < length app.datatypes
  pub written : IfSome v.arg (IsType nothing_in_scope)
  pub value : IfSome v.arg (λ t. IsTrue (is_value_type t))

-- a route is of a page function, and has its module's and its own name and the types of its parameters; the fields of its form have their
-- names and stand by them
pub record RouteFits (app : Typed) (route : Route) (number : ℕ) : Type 0 where
  pub function : Function
  pub declared : slice_get app.functions number ≡ Some function
  pub page : IsPage (head_of function)
  pub home : slice_get app.modules function.«module» ≡ Some route.module_name
  pub name : function.name ≡ route.function_name
  pub types : types_of function.params ≡ route_types app.names route
  pub fields : All (λ f. slice_get app.names f.number.0 ≡ Some f.name) route.form
  pub rising : AllPairs (λ f g. f.number.0 < g.number.0) route.form

-- a cookie holds an int, a text or a bool, and no option
abbrev pub IsBasicCookie : List ℕ × ColumnKind → Type 0
IsBasicCookie c = inside c.1 ≡ None

-- each part of the project is typed, no normal form having more than `most` nodes
pub record AppIsTyped (most : ℕ) (app : Typed) : Type 0 where
  pub variants : All (VariantIsTyped app) app.variants
  pub vals : (k : ℕ) (v : ModuleVal) → slice_get app.vals k ≡ Some v → ValIsTyped (declared_of app) most k v
  pub functions : All (FunctionIsTyped (declared_of app) most) app.functions
  pub queries : All (QueryFits app.schema) app.queries
  pub changes : All (ChangeFits app.schema) app.changes
  pub routes : AllZip (RouteFits app) app.handlers.routes app.targets
  pub cookies : All IsBasicCookie app.cookies
