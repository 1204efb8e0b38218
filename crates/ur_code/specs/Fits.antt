-- Code that fits its types.
use Rattle.std.specs.Prelude.{◌≡◌, ℕ, true, [], length, map, All, Some, None, slice_get}
use Rattle.std.specs.List.{AllZip}
use Rattle.std.specs.Str.{IsUtf8}
use Rattle.ur_values.specs.declared.types.ValueType.TheVariants as ty
use Rattle.ur_values.specs.Kinds.{inside}
use Rattle.ur_sql.specs.Typing.{QueryFits, ChangeFits}
use Rattle.ur_tags.specs.declared.routes.Route.{Route}
use Rattle.ur_terms.specs.declared.term.Function.{Function}
use Rattle.ur_terms.specs.Types.{RouteType, Signature, FitsFunction, function_type}
use Rattle.ur_code.specs.declared.code.Code.{Code}
use Rattle.ur_code.specs.declared.code.Cookie.{Cookie}
use Rattle.ur_code.specs.RowType.{kind_type, query_type}
use Rattle.ur_code.specs.RouteTypes.{route_params}

-- ---- what code declares

abbrev pub route_type : Route → RouteType
route_type r = record { params = route_params r; get = r.get; post = r.post }

abbrev pub signature : Code → Signature
signature code = record {
  names = code.names;
  variants = code.variants;
  cookies = map (λ c. kind_type c.of) code.cookies;
  queries = map query_type code.queries;
  changes = map (λ u. map kind_type u.params) code.changes;
  sequences = length code.schema.sequences;
  routes = map route_type code.handlers.routes;
  functions = map function_type code.functions;
}

-- ---- the table

-- A route's function takes the route's arguments and gives a page. A route that answers GET has no form.
pub record FitsRoute (code : Code) (r : Route) (target : ℕ) : Type 0 where
  pub function : Function
  pub is_function : slice_get code.functions target ≡ Some function
  pub params : function.params ≡ route_params r
  pub page : function.result ≡ ty.Page
  pub no_form : r.get ≡ true → r.form ≡ []

-- a cookie holds an int, a text or a bool, and no option
abbrev pub IsBasicCookie : Cookie → Type 0
IsBasicCookie c = inside c.of ≡ None

-- Each function's body has its result's type, each query and change fits the tables, each route its function, the
-- tables' names are text, and no cookie is optional.
pub record Fits (code : Code) : Type 0 where
  pub functions : All (FitsFunction (signature code)) code.functions
  pub queries : All (QueryFits code.schema) code.queries
  pub changes : All (ChangeFits code.schema) code.changes
  pub routes : AllZip (FitsRoute code) code.handlers.routes code.targets
  pub tables : All (λ shape. IsUtf8 shape.name) code.schema.tables
  pub cookies : All IsBasicCookie code.cookies
