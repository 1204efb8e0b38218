-- The arguments of a route's call.
use Rattle.std.specs.Prelude.{◌≡◌, ◌<◌, ℕ, List, ◌∷◌, [], ◌++◌, map, Some, slice_get, All, AllPairs}
use Rattle.ur_tags.specs.declared.routes.FormField.{FormField}
use Rattle.ur_rows.specs.declared.normal.NormalType.{NormalType}
use Rattle.ur_rows.specs.declared.normal.Part.{Part}
use Rattle.ur_rows.specs.Made.{record_of}
use Rattle.ur_tree.specs.QueryRow.{named_part}
use Rattle.ur_tree.specs.Routes.{box_type, param_type, form_argument}
use Rattle.ur_check_heads.specs.declared.arguments.Arguments.{Arguments}

abbrev pub form_part : List (List ℕ) → FormField → Part
form_part names f = named_part names f.number (box_type f.checkbox)

abbrev pub HasName : List (List ℕ) → FormField → Type 0
HasName names f = slice_get names f.number.0 ≡ Some f.name

abbrev pub AreRising : List FormField → Type 0
AreRising form = AllPairs (λ f g. f.number.0 < g.number.0) form

-- a form gives an argument of that type
pub record IsForm (names : List (List ℕ)) (of : NormalType) (form : List FormField) : Type 0 where
  pub argument : form_argument names form ≡ of ∷ []
  pub named : All (HasName names) form
  pub rising : AreRising form

abbrev pub IsFormOf : List (List ℕ) → List Part → List FormField → Type 0
IsFormOf names row form = IsForm names (record_of row) form

-- what stands in the path and what the form gives have these types
pub record AreArguments (names : List (List ℕ)) (all : List NormalType) (a : Arguments) : Type 0 where
  pub types : all ≡ map param_type a.params ++ form_argument names a.form
  pub named : All (HasName names) a.form
  pub rising : AreRising a.form
