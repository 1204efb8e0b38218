-- Where XML is put together, links and buttons stay calls of the program's routes.
use Rattle.std.proofs.Common.{◌≡◌, ℕ, zero, suc, List, [], ◌∷◌, ◌++◌, Option, Some, Bool, true, false, refl, sym, subst, ap, ◌∙◌}
use Rattle.std.proofs.lemmas.Option.{none-some, same_Some}
use Rattle.std.specs.Prelude.{map, slice_get}
use Rattle.std.specs.List.{AllByRecursion, AllZip}
use mathlib.Core.Former.{Count}
use Rattle.ur_base.specs.declared.names.Name.{Name}
use Rattle.ur_values.specs.declared.types.ValueType.{ValueType}
use Rattle.ur_values.specs.declared.types.ValueType.TheVariants as ty
use Rattle.ur_values.specs.declared.value.Value.{Value, Row_of-Value, end_of-Value, more_of-Value, Row_of-Node, end_of-Node, more_of-Node, items-the_row-Value, items-the_row-Node, items_hidden-the_row-Node-0, items_hidden-the_row-Value-1}
use Rattle.ur_values.specs.declared.value.Value.TheVariants as v
use Rattle.ur_values.specs.declared.value.Node.{Node}
use Rattle.ur_values.specs.declared.value.Node.TheVariants as n
use Rattle.ur_values.specs.declared.value.Call.{Call}
use Rattle.ur_values.specs.declared.value.Tag.{Tag}
use Rattle.ur_values.specs.Values.{unit_value}
use Rattle.ur_tags.specs.declared.routes.Param.{Param}
use Rattle.ur_tags.specs.declared.routes.Param.TheVariants as param
use Rattle.ur_tags.specs.declared.routes.FormField.{FormField}
use Rattle.ur_tags.specs.declared.routes.Route.{Route}
use Rattle.ur_tags.specs.declared.routes.Handlers.{Handlers}
use Rattle.ur_tags.specs.Routes.{FitsParam}
use Rattle.ur_terms.specs.Types.{record_type, IsUnitForm}
use Rattle.ur_terms.specs.Ops.{with_unit}
use Rattle.ur_terms.specs.Inhabits.{Variants}
use Rattle.ur_terms.proofs.Inhabiting.{Of, FieldsOf, to-Row}
use Rattle.ur_terms.proofs.TypedValues.{int_of, bool_of, text_of, record_of, record_same}
use Rattle.ur_terms.proofs.Typed.{both_of}
use Rattle.ur_code.specs.RouteTypes.{param_type, form_argument}
use Rattle.ur_code.specs.Links.{FitRow, LinksOwn, AllLinkOwn, HasOwnCalls}

-- ---- lists

-- where a mapped list has an element, the list has one that is mapped to it
pub at_mapped : {A B : Type 0} (f : A → B) (xs : List A) (i : ℕ) (y : B) → slice_get (map f xs) i ≡ Some y → (x : A) × (slice_get xs i ≡ Some x) × (f x ≡ y)
at_mapped f [] i y e = absurd (none-some _ e)
at_mapped f (x ∷ xs) zero y e = (x, refl, same_Some _ _ e)
at_mapped f (x ∷ xs) (suc i) y e = at_mapped f xs i y e

not_nil : {A : Type 0} (ys : List A) (y : A) → [] ≡ ys ++ y ∷ [] → ⊥
not_nil [] y e = cc
not_nil (z ∷ ys) y e = cc

tail_same : {A : Type 0} {x y : A} {xs ys : List A} → x ∷ xs ≡ y ∷ ys → xs ≡ ys
tail_same e = cc

head_same : {A : Type 0} {x y : A} {xs ys : List A} → x ∷ xs ≡ y ∷ ys → x ≡ y
head_same e = cc

-- lists with one element more at the end are the same where both parts are
ends_same : {A : Type 0} (xs ys : List A) (x y : A) → xs ++ x ∷ [] ≡ ys ++ y ∷ [] → (xs ≡ ys) × (x ≡ y)
ends_same [] [] x y e = (refl, head_same e)
ends_same [] (b ∷ ys) x y e = absurd (not_nil ys y (tail_same e))
ends_same (a ∷ xs) [] x y e = absurd (not_nil xs x (sym (tail_same e)))
ends_same {A} (a ∷ xs) (b ∷ ys) x y e =
    let rest = ends_same xs ys x y (tail_same e) in
    (subst (λ (c : A). a ∷ xs ≡ c ∷ ys) (head_same e) (ap (λ zs. a ∷ zs) (rest.0)), rest.1)

-- ---- rows of nodes as lists

abbrev kids_in : Node → (m : Count) × Row_of-Node m
kids_in (n.Element' _ _ row) = (_, row)
kids_in (n.Link' _ _ _ _ row) = (_, row)
kids_in _ = (_, end_of-Node)

abbrev nodes_in : Value → (m : Count) × Row_of-Node m
nodes_in (v.Markup' _ row) = (_, row)
nodes_in _ = (_, end_of-Node)

abbrev args_in : Node → (m : Count) × Row_of-Value m
args_in (n.Link' _ _ row _ _) = (_, row)
args_in (n.Submit' _ _ row _) = (_, row)
args_in _ = (_, end_of-Value)

module _ (handlers : Handlers) where
  each_of_row : (m : Count) (row : Row_of-Node m) → AllLinkOwn handlers row → AllByRecursion (LinksOwn handlers) (items-the_row-Node m row)
  each_of_row m end_of-Node h = tt
  each_of_row m (more_of-Node x rest) h = (h.0, each_of_row _ rest h.1)

  row_of_each : (m : Count) (row : Row_of-Node m) → AllByRecursion (LinksOwn handlers) (items-the_row-Node m row) → AllLinkOwn handlers row
  row_of_each m end_of-Node h = tt
  row_of_each m (more_of-Node x rest) h = (h.0, row_of_each _ rest h.1)

  pub of_markup : (nodes : List Node) → HasOwnCalls handlers (v.Markup nodes) → AllByRecursion (LinksOwn handlers) nodes
  of_markup nodes h =
      let row = nodes_in (v.Markup nodes) in subst (AllByRecursion (LinksOwn handlers)) (items_hidden-the_row-Node-0 nodes) (each_of_row row.0 row.1 h)

  pub to_markup : (nodes : List Node) → AllByRecursion (LinksOwn handlers) nodes → HasOwnCalls handlers (v.Markup nodes)
  to_markup nodes h =
      let row = nodes_in (v.Markup nodes) in row_of_each row.0 row.1 (subst (AllByRecursion (LinksOwn handlers)) (sym (items_hidden-the_row-Node-0 nodes)) h)

  pub to_element : (tag : Tag) (kids : List Node) → AllByRecursion (LinksOwn handlers) kids → LinksOwn handlers (n.Element tag kids)
  to_element tag kids h =
      let row = kids_in (n.Element tag kids) in row_of_each row.0 row.1 (subst (AllByRecursion (LinksOwn handlers)) (sym (items_hidden-the_row-Node-0 kids)) h)

  pub together : (a b : List Node) → AllByRecursion (LinksOwn handlers) a → AllByRecursion (LinksOwn handlers) b → AllByRecursion (LinksOwn handlers) (a ++ b)
  together [] b h k = k
  together (x ∷ a) b h k = (h.0, together a b h.1 k)

  -- ---- arguments

  fit_row : (m : Count) (row : Row_of-Value m) (params : List Param) → AllZip FitsParam (items-the_row-Value m row) params → FitRow row params
  fit_row m end_of-Value [] h = tt
  fit_row m end_of-Value (p ∷ params) h = absurd h
  fit_row m (more_of-Value x rest) [] h = absurd h
  fit_row m (more_of-Value x rest) (p ∷ params) h = (h.0, fit_row _ rest params h.1)

  pub to_link : (call : Call) (kids : List Node) (r : Route) → slice_get handlers.routes call.route ≡ Some r → r.get ≡ true → AllZip FitsParam call.args r.params
      → AllByRecursion (LinksOwn handlers) kids → LinksOwn handlers (n.Link call kids)
  to_link call kids r has get fit h =
      let args = args_in (n.Link call kids) in
      let row = kids_in (n.Link call kids) in (
        (r, has, get, fit_row args.0 args.1 r.params (subst (λ xs. AllZip FitsParam xs r.params) (sym (items_hidden-the_row-Value-1 call.args)) fit)),
        row_of_each row.0 row.1 (subst (AllByRecursion (LinksOwn handlers)) (sym (items_hidden-the_row-Node-0 kids)) h),
      )

  pub to_submit : (call : Call) (label : Option (List ℕ)) (r : Route) → slice_get handlers.routes call.route ≡ Some r → r.post ≡ true → AllZip FitsParam call.args r.params
      → LinksOwn handlers (n.Submit call label)
  to_submit call label r has post fit =
      let args = args_in (n.Submit call label) in
      (r, has, post, fit_row args.0 args.1 r.params (subst (λ xs. AllZip FitsParam xs r.params) (sym (items_hidden-the_row-Value-1 call.args)) fit))

module _ (own : Value → Type 0) (vs : Variants) where
  abbrev V : Value → ValueType → Type 0
  V x t = Of own vs x t

  no_fields : (gs : List (Name × Value)) → FieldsOf own vs gs [] → gs ≡ []
  no_fields [] h = refl
  no_fields (g ∷ gs) h = absurd h

  param_fits : (p : Param) (x : Value) → V x (param_type p) → FitsParam x p
  param_fits param.Int x h = let i = int_of own vs x h in subst (λ y. FitsParam y param.Int) (sym i.1) i.2
  param_fits param.Str x h = let t = text_of own vs x h in subst (λ y. FitsParam y param.Str) (sym t.1) t.2
  param_fits param.Bool x h = let b = bool_of own vs x h in subst (λ y. FitsParam y param.Bool) (sym b.1) tt
  param_fits param.Unit x h =
      let r = record_of own vs [] x h in
      subst (λ y. FitsParam y param.Unit) (sym (r.1 ∙ ap v.Row (no_fields r.0 r.2))) refl

  pub params_fit : (ps : List Param) (xs : List Value) → AllZip V xs (map param_type ps) → AllZip FitsParam xs ps
  params_fit [] [] h = tt
  params_fit [] (x ∷ xs) h = absurd h
  params_fit (p ∷ ps) [] h = absurd h
  params_fit (p ∷ ps) (x ∷ xs) h = (param_fits p x h.0, params_fit ps xs h.1)

  -- of a route without a form
  params_alone : (ps : List Param) (xs : List Value) → AllZip V xs (map param_type ps ++ []) → AllZip FitsParam xs ps
  params_alone [] [] h = tt
  params_alone [] (x ∷ xs) h = absurd h
  params_alone (p ∷ ps) [] h = absurd h
  params_alone (p ∷ ps) (x ∷ xs) h = (param_fits p x h.0, params_alone ps xs h.1)

  pub without_form : (ps : List Param) (form : List FormField) (xs : List Value) → form ≡ [] → AllZip V xs (map param_type ps ++ form_argument form) → AllZip FitsParam xs ps
  without_form ps form xs e h = params_alone ps xs (subst (λ f. AllZip V xs (map param_type ps ++ form_argument f)) e h)

  pub unit_is : V unit_value (record_type [])
  unit_is = to-Row own vs [] (record_type []) ([], refl, tt)

  -- a parameter of a path is a record only where it is the unit
  param_record : (p : Param) (last : List (Name × ValueType)) → param_type p ≡ record_type last → last ≡ []
  param_record param.Int last e = absurd (apart e)
    where
      apart : ty.Int ≡ record_type last → ⊥
      apart e = cc
  param_record param.Str last e = absurd (apart e)
    where
      apart : ty.Str ≡ record_type last → ⊥
      apart e = cc
  param_record param.Bool last e = absurd (apart e)
    where
      apart : ty.Bool ≡ record_type last → ⊥
      apart e = cc
  param_record param.Unit last e = sym (record_same [] last e)

  last_is_unit : (ps : List Param) (params : List ValueType) (last : List (Name × ValueType)) → map param_type ps ++ [] ≡ params ++ record_type last ∷ [] → last ≡ []
  last_is_unit [] params last e = absurd (not_nil params (record_type last) e)
  last_is_unit (p ∷ ps) [] last e = param_record p last (head_same e)
  last_is_unit (p ∷ ps) (q ∷ params) last e = last_is_unit ps params last (tail_same e)

  -- what a button's call has are the arguments of its route's path
  pub button_fits : (ps : List Param) (form : List FormField) (params : List ValueType) (last : List (Name × ValueType)) (unit : Bool) (args : List Value)
      → map param_type ps ++ form_argument form ≡ params ++ record_type last ∷ [] → IsUnitForm unit last → AllZip V args params → AllZip FitsParam (with_unit unit args) ps
  button_fits ps [] params last true args e is h =
      params_alone ps (args ++ unit_value ∷ [])
      (subst (AllZip V (args ++ unit_value ∷ [])) (ap (λ fs. params ++ record_type fs ∷ []) (sym is) ∙ sym e)
      (both_of V args params (unit_value ∷ []) (record_type [] ∷ []) h (unit_is, tt)))
  button_fits ps [] params last false args e is h = absurd (is (last_is_unit ps params last e))
  button_fits ps (f ∷ fs) params last true args e is h = absurd (apart (record_same _ last (ends_same (map param_type ps) params _ (record_type last) e).1 ∙ is))
    where
      apart : {A : Type 0} {x : A} {xs : List A} → x ∷ xs ≡ [] → ⊥
      apart e = cc
  button_fits ps (f ∷ fs) params last false args e is h =
      params_fit ps args (subst (AllZip V args) (sym (ends_same (map param_type ps) params _ (record_type last) e).0) h)
