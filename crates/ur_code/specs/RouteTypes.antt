-- The first-order types of a route's arguments, and the calls that requests make.
use Rattle.std.specs.Prelude.{◌≡◌, Bool, true, false, List, [], ◌∷◌, ◌++◌, map}
use Rattle.std.specs.List.{AllZip}
use Rattle.std.specs.Str.{IsUtf8}
use Rattle.ur_base.specs.declared.names.Name.{Name}
use Rattle.ur_values.specs.declared.types.ValueType.{ValueType}
use Rattle.ur_values.specs.declared.types.ValueType.TheVariants as ty
use Rattle.ur_values.specs.declared.value.Value.{Value}
use Rattle.ur_values.specs.declared.value.Value.TheVariants as v
use Rattle.ur_values.specs.declared.value.Call.{Call}
use Rattle.ur_tags.specs.declared.routes.Param.{Param}
use Rattle.ur_tags.specs.declared.routes.Param.TheVariants as param
use Rattle.ur_tags.specs.declared.routes.FormField.{FormField}
use Rattle.ur_tags.specs.declared.routes.Route.{Route}
use Rattle.ur_tags.specs.declared.routes.Handlers.{Handlers}
use Rattle.ur_tags.specs.Routes.{HasRoute, FitsParam}
use Rattle.ur_terms.specs.Types.{record_type, unit_type}

abbrev pub param_type : Param → ValueType
param_type param.Int = ty.Int
param_type param.Str = ty.Str
param_type param.Bool = ty.Bool
param_type param.Unit = unit_type

-- a checkbox gives a bool, and any other field a text
abbrev pub box_type : Bool → ValueType
box_type true = ty.Bool
box_type false = ty.Str

abbrev pub form_field_type : FormField → Name × ValueType
form_field_type f = (f.number, box_type f.checkbox)

-- the record that a form gives, where it has fields
abbrev pub form_argument : List FormField → List ValueType
form_argument [] = []
form_argument (f ∷ fs) = record_type (form_field_type f ∷ map form_field_type fs) ∷ []

-- the arguments of a route's call, the form's record last
abbrev pub route_params : Route → List ValueType
route_params r = map param_type r.params ++ form_argument r.form

-- ---- calls of routes as requests make them

abbrev pub FitsBox : Value → Bool → Type 0
FitsBox (v.Bool b) true = Unit {0}
FitsBox (v.Str t) false = IsUtf8 t
FitsBox x checkbox = ⊥

-- a field's value has the field's number and type
abbrev pub FitsField : Name × Value → FormField → Type 0
FitsField x f = (x.0 ≡ f.number) × FitsBox x.1 f.checkbox

-- the record that a form gives, or nothing where it has no fields
abbrev pub IsFormArgument : List Value → List FormField → Type 0
IsFormArgument args [] = args ≡ []
IsFormArgument args (f ∷ fs) = (fields : List (Name × Value)) × (args ≡ v.Row fields ∷ []) × AllZip FitsField fields (f ∷ fs)

-- The arguments in the path have their types, and the form's record comes last.
pub record IsRequestOf (handlers : Handlers) (call : Call) : Type 0 where
  pub route : Route
  pub in_path : List Value
  pub in_form : List Value
  pub is_route : HasRoute handlers call.route route
  pub args : call.args ≡ in_path ++ in_form
  pub path : AllZip FitsParam in_path route.params
  pub form : IsFormArgument in_form route.form
