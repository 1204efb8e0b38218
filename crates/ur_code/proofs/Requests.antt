-- Arguments of requests, and cookies, as values of types.
use Rattle.std.proofs.Common.{◌≡◌, ◌⊎◌, inl, inr, ℕ, zero, suc, Bool, true, false, List, [], ◌∷◌, Some, refl, sym, subst}
use Rattle.std.proofs.lemmas.Option.{none-some, same_Some}
use Rattle.std.specs.Prelude.{map, slice_get}
use Rattle.std.specs.List.{AllZip}
use denote.Hole.Carrier as Carrier
use Rattle.ur_base.specs.declared.names.Name.{Name}
use Rattle.ur_values.specs.declared.types.ValueType.{ValueType}
use Rattle.ur_values.specs.declared.types.ValueType.TheVariants as ty
use Rattle.ur_values.specs.declared.value.Value.{Value, end_of-Value, more_of-Value}
use Rattle.ur_values.specs.declared.value.Value.TheVariants as v
use Rattle.ur_values.specs.declared.value.Node.TheBlock as block
use Rattle.ur_values.specs.declared.value.Call.{Call}
use Rattle.ur_values.specs.Store.{FitsKind}
use Rattle.ur_tags.specs.declared.routes.Param.{Param}
use Rattle.ur_tags.specs.declared.routes.Param.TheVariants as param
use Rattle.ur_tags.specs.declared.routes.FormField.{FormField}
use Rattle.ur_tags.specs.declared.routes.Handlers.{Handlers}
use Rattle.ur_tags.specs.Routes.{FitsParam}
use Rattle.ur_terms.specs.Types.{record_type, unit_type}
use Rattle.ur_terms.specs.Inhabits.{Variants}
use Rattle.ur_terms.proofs.Inhabiting.{Of, FieldsOf, to-Row}
use Rattle.ur_terms.proofs.TypedValues.{option_of}
use Rattle.ur_terms.proofs.Typed.{both_of}
use Rattle.ur_code.specs.declared.code.Cookie.{Cookie}
use Rattle.ur_code.specs.RowType.{kind_type}
use Rattle.ur_code.specs.RouteTypes.{param_type, box_type, form_field_type, form_argument, route_params, FitsBox, FitsField, IsFormArgument, IsRequestOf}
use Rattle.ur_code.specs.Sound.{FitsCookie}
use Rattle.ur_code.proofs.KindTypes.{kind_value, value_kind}
use Rattle.ur_code.proofs.Links.{unit_is}

-- what stands at a place of the first stands over its fellow of the second
pub at_zip : {A B : Type 0} (R : A → B → Type 0) (xs : List A) (ys : List B) (i : ℕ) (x : A) → AllZip R xs ys → slice_get xs i ≡ Some x → (y : B) × (slice_get ys i ≡ Some y) × R x y
at_zip R [] ys i x h e = absurd (none-some _ e)
at_zip R (z ∷ xs) [] i x h e = absurd h
at_zip R (z ∷ xs) (y ∷ ys) zero x h e = (y, refl, subst (λ z. R z y) (same_Some _ _ e) h.0)
at_zip R (z ∷ xs) (y ∷ ys) (suc i) x h e = at_zip R xs ys i x h.1 e

module _ (own : Value → Type 0) (vs : Variants) where
  abbrev V : Value → ValueType → Type 0
  V x t = Of own vs x t

  param_value : (x : Value) (p : Param) → FitsParam x p → V x (param_type p)
  param_value (v.Int i) param.Int h = (refl, h)
  param_value (v.Str t) param.Str h = (refl, h)
  param_value (v.Bool b) param.Bool h = refl
  param_value x param.Unit h = subst (λ y. V y unit_type) (sym h) (unit_is own vs)
  param_value _ _ h = absurd h

  params_values : (xs : List Value) (ps : List Param) → AllZip FitsParam xs ps → AllZip V xs (map param_type ps)
  params_values [] [] h = tt
  params_values [] (p ∷ ps) h = absurd h
  params_values (x ∷ xs) [] h = absurd h
  params_values (x ∷ xs) (p ∷ ps) h = (param_value x p h.0, params_values xs ps h.1)

  box_value : (x : Value) (b : Bool) → FitsBox x b → V x (box_type b)
  box_value (v.Bool c) true h = refl
  box_value (v.Str t) false h = (refl, h)
  box_value _ _ h = absurd h

  form_fields : (fields : List (Name × Value)) (fs : List FormField) → AllZip FitsField fields fs → FieldsOf own vs fields (map form_field_type fs)
  form_fields [] [] h = tt
  form_fields [] (f ∷ fs) h = absurd h
  form_fields (x ∷ fields) [] h = absurd h
  form_fields (x ∷ fields) (f ∷ fs) h = (h.0.0, box_value x.1 f.checkbox h.0.1, form_fields fields fs h.1)

  form_value : (args : List Value) (form : List FormField) → IsFormArgument args form → AllZip V args (form_argument form)
  form_value args [] h = subst (λ xs. AllZip V xs []) (sym h) tt
  form_value args (f ∷ fs) (fields, e, h) =
      subst (λ xs. AllZip V xs (form_argument (f ∷ fs))) (sym e)
      (to-Row own vs fields (record_type (form_field_type f ∷ map form_field_type fs)) (form_field_type f ∷ map form_field_type fs, refl, form_fields fields (f ∷ fs) h), tt)

  pub request_values : (handlers : Handlers) (call : Call) (h : IsRequestOf handlers call) → AllZip V call.args (route_params h.route)
  request_values handlers call h =
      let route = h.route in
      subst (λ xs. AllZip V xs (route_params route)) (sym h.args)
      (both_of V h.in_path (map param_type route.params) h.in_form (form_argument route.form) (params_values h.in_path route.params h.path) (form_value h.in_form route.form h.form))

  -- ---- cookies

  cookie_value : (x : Value) (c : Cookie) → FitsCookie x c → V x (ty.Opt (kind_type c.of))
  cookie_value v.Absent c h = (kind_type c.of, refl)
  cookie_value (v.Present' _ (more_of-Value x end_of-Value)) c h = (kind_type c.of, refl, (kind_value own vs x c.of h, tt))
  cookie_value _ c h = absurd h

  pub cookies_values : (xs : List Value) (cs : List Cookie) → AllZip FitsCookie xs cs → AllZip (λ x t. V x (ty.Opt t)) xs (map (λ c. kind_type c.of) cs)
  cookies_values [] [] h = tt
  cookies_values [] (c ∷ cs) h = absurd h
  cookies_values (x ∷ xs) [] h = absurd h
  cookies_values (x ∷ xs) (c ∷ cs) h = (cookie_value x c h.0, cookies_values xs cs h.1)

  present_fits : (y : Value) (c : Cookie) → FitsKind y c.of → FitsCookie (v.Present y) c
  unfolding block.hidden-the_row-Value-3 Carrier.hidden
  present_fits y c h = h

  value_cookie : (x : Value) (c : Cookie) → V x (ty.Opt (kind_type c.of)) → FitsCookie x c
  value_cookie x c h = go (option_of own vs (kind_type c.of) x h)
    where
      go : (x ≡ v.Absent) ⊎ ((y : Value) × (x ≡ v.Present y) × V y (kind_type c.of)) → FitsCookie x c
      go (inl e) = subst (λ z. FitsCookie z c) (sym e) tt
      go (inr (y, e, k)) = subst (λ z. FitsCookie z c) (sym e) (present_fits y c (value_kind own vs y c.of k))

  pub values_cookies : (xs : List Value) (cs : List Cookie) → AllZip (λ x t. V x (ty.Opt t)) xs (map (λ c. kind_type c.of) cs) → AllZip FitsCookie xs cs
  values_cookies [] [] h = tt
  values_cookies [] (c ∷ cs) h = absurd h
  values_cookies (x ∷ xs) [] h = absurd h
  values_cookies (x ∷ xs) (c ∷ cs) h = (value_cookie x c h.0, values_cookies xs cs h.1)
