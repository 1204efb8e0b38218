-- The types of rows, column by column.
use Rattle.std.proofs.Common.{◌≡◌, ℕ, zero, suc, ◌<◌, ◌≤◌, ◌+◌, Bool, true, false, List, [], ◌∷◌, ◌++◌, length, take, drop, get_or, Option, Some, None, refl, sym, ap, ap₂, ◌∙◌, subst, arith, add-one, append-nil, true≢false}
use Rattle.std.specs.Prelude.{map, option_map, unwrap_or, slice_get, slice_index_or, IsTrue, ◌↔◌}
use Rattle.std.proofs.lemmas.Option.{slice_get-map, slice_get_past, unwrap_or-slice_get, slice_get-get_or, get_or_from_slice_get}
use Rattle.ur_values.specs.declared.schema.ColumnKind.{ColumnKind}
use Rattle.ur_sql.specs.declared.query.Item.{Item}
use Rattle.std.proofs.lemmas.List.{take_all}
use Rattle.ur_base.specs.declared.names.Name.{Name}
use Rattle.ur_values.specs.declared.types.ValueType.{ValueType}
use Rattle.ur_values.specs.declared.types.ValueType.TheVariants as ty
use Rattle.ur_values.specs.declared.types.TypeField.{TypeField}
use Rattle.ur_terms.specs.Types.{record_type}
use Rattle.ur_tags.specs.declared.routes.Param.{Param}
use Rattle.ur_tags.specs.declared.routes.FormField.{FormField}
use Rattle.ur_tags.specs.declared.routes.Route.{Route}
use Rattle.ur_code.specs.RowType.{all_there, both_there}
use Rattle.ur_code.specs.RouteTypes.{param_type, form_field_type, form_argument, route_params}
use Rattle.ur_verify_operations.specs.Fields.{pair}
use Rattle.ur_verify_operations.proofs.FieldTypes.{pairs, record_is}

module _ {A : Type 0} where
  -- behind one that is there
  more_behind : (x : A) (known whole : Option (List A)) (ys : List A) (y : A) → ((zs : List A) → known ≡ Some zs → whole ≡ Some (zs ++ y ∷ [])) → both_there (Some x) known ≡ Some ys
      → both_there (Some x) whole ≡ Some (ys ++ y ∷ [])
  more_behind x None whole ys y more e = cc
  more_behind x (Some zs) whole ys y more e = ap (both_there (Some x)) (more zs refl) ∙ ap (λ ws. Some (ws ++ y ∷ [])) (same e)
    where
      same : Some (x ∷ zs) ≡ Some ys → x ∷ zs ≡ ys
      same e = cc

  all_more : (os : List (Option A)) (o : Option A) (ys : List A) (y : A) → all_there os ≡ Some ys → o ≡ Some y → all_there (os ++ o ∷ []) ≡ Some (ys ++ y ∷ [])
  all_more [] o ys y e f = subst (λ z. both_there z (Some []) ≡ Some (ys ++ y ∷ [])) (sym f) (ap (λ zs. Some (zs ++ y ∷ [])) (same e))
    where
      same : Some [] ≡ Some ys → [] ≡ ys
      same e = cc
  all_more (None ∷ os) o ys y e f = cc
  all_more (Some x ∷ os) o ys y e f = more_behind x (all_there os) (all_there (os ++ o ∷ [])) ys y (λ zs q. all_more os o zs y q f) e

  none_after : (x : Option A) → both_there x None ≡ None
  none_after None = refl
  none_after (Some x) = refl

  all_none : (os : List (Option A)) (o : Option A) (rest : List (Option A)) → o ≡ None → all_there (os ++ o ∷ rest) ≡ None
  all_none [] o rest e = subst (λ z. both_there z (all_there rest) ≡ None) (sym e) refl
  all_none (x ∷ os) o rest e = ap (both_there x) (all_none os o rest e) ∙ none_after x

module _ {X Y : Type 0} (f : X → Y) where
  more_of : (xs : List X) (i : ℕ) (x : X) → i < length xs → x ≡ get_or xs i x → map f (take (suc i) xs) ≡ map f (take i xs) ++ f x ∷ []
  more_of [] i x h e = absurd (omega (arith, h))
  more_of (y ∷ xs) zero x h e = ap (λ z. f z ∷ []) (sym e)
  more_of (y ∷ xs) (suc i) x h e = ap (λ ys. f y ∷ ys) (more_of xs i x (omega (arith, h)) e)

  cut_at : (xs : List X) (i : ℕ) (x : X) → i < length xs → x ≡ get_or xs i x → map f xs ≡ map f (take i xs) ++ f x ∷ map f (drop (suc i) xs)
  cut_at [] i x h e = absurd (omega (arith, h))
  cut_at (y ∷ xs) zero x h e = ap (λ z. f z ∷ map f xs) (sym e)
  cut_at (y ∷ xs) (suc i) x h e = ap (λ ys. f y ∷ ys) (cut_at xs i x (omega (arith, h)) e)

module _ {X : Type 0} (f : X → Option (Name × ValueType)) where
  -- one more is there
  pub there_more : (xs : List X) (i : ℕ) (x : X) (fs : List TypeField) (g : TypeField) → i < length xs → x ≡ get_or xs i x → all_there (map f (take i xs)) ≡ Some (pairs fs)
      → f x ≡ Some (pair g) → all_there (map f (take (i + 1) xs)) ≡ Some (pairs (fs ++ g ∷ []))
  there_more xs i x fs g h e all one =
      rw (add-one) (ap all_there (more_of f xs i x h e) ∙ all_more (map f (take i xs)) (f x) (pairs fs) (pair g) all one ∙ ap (λ ys. Some ys) (sym (end_of fs)))
    where
      end_of : (gs : List TypeField) → pairs (gs ++ g ∷ []) ≡ pairs gs ++ pair g ∷ []
      end_of [] = refl
      end_of (k ∷ gs) = ap (λ ys. pair k ∷ ys) (end_of gs)

  -- one is missing
  pub one_missing : (xs : List X) (i : ℕ) (x : X) → i < length xs → x ≡ get_or xs i x → f x ≡ None → option_map record_type (all_there (map f xs)) ≡ None
  one_missing xs i x h e none =
      ap (λ o. option_map record_type (all_there o)) (cut_at f xs i x h e)
      ∙ ap (option_map record_type) (all_none (map f (take i xs)) (f x) (map f (drop (suc i) xs)) none)

  -- all are there
  pub all_typed : (xs : List X) (i : ℕ) (fs : List TypeField) → length xs ≤ i → all_there (map f (take i xs)) ≡ Some (pairs fs)
      → option_map record_type (all_there (map f xs)) ≡ Some (ty.Record fs)
  all_typed xs i fs h e =
      ap (option_map record_type) (subst (λ ys. all_there (map f ys) ≡ Some (pairs fs)) (take_all i xs h) e) ∙ ap (λ r. Some r) (sym (record_is fs))

-- ---- columns of the items of FROM

abbrev pub columns : Item → List ColumnKind
columns item = item.columns

item_columns : (from : List Item) (i : ℕ) → slice_index_or (map columns from) i [] ≡ unwrap_or (option_map columns (slice_get from i)) []
item_columns from i = sym (unwrap_or-slice_get (map columns from) i []) ∙ ap (λ o. unwrap_or o []) (slice_get-map columns from i)

pub no_item : (from : List Item) (i c : ℕ) → slice_get from i ≡ None → slice_get (slice_index_or (map columns from) i []) c ≡ None
no_item from i c e =
    ap (λ (ks : List ColumnKind). slice_get ks c) (item_columns from i ∙ ap (λ o. unwrap_or (option_map columns o) []) e) ∙ slice_get_past [] c (omega arith)

pub item_at : (from : List Item) (i c : ℕ) (item : Item) (ks : List ColumnKind) (o : Option ColumnKind) → slice_get from i ≡ Some item → ks ≡ item.columns → o ≡ slice_get ks c
    → o ≡ slice_get (slice_index_or (map columns from) i []) c
item_at from i c item ks o e f is =
    is ∙ ap (λ (xs : List ColumnKind). slice_get xs c) (f ∙ sym (item_columns from i ∙ ap (λ o. unwrap_or (option_map columns o) []) e))

-- ---- at a place of a list

read_any : {X : Type 0} (xs : List X) (i : ℕ) (d : X) → i < length xs → get_or xs i d ≡ get_or xs i (get_or xs i d)
read_any xs i d h = sym (get_or_from_slice_get xs i (get_or xs i d) (get_or xs i d) (slice_get-get_or xs i d h))

module _ {X : Type 0} (f : X → Option (Name × ValueType)) where
  -- one is missing among some list that these are
  pub missing_at : (xs ys : List X) (i : ℕ) (d : X) → i < length xs → f (get_or xs i d) ≡ None → xs ≡ ys → None ≡ option_map record_type (all_there (map f ys))
  missing_at xs ys i d h none e =
      sym (subst (λ zs. option_map record_type (all_there (map f zs)) ≡ None) e (one_missing f xs i (get_or xs i d) h (read_any xs i d h) none))

  pub there_pushed : (xs : List X) (i : ℕ) (d : X) (fs made : List TypeField) (g : TypeField) → i < length xs → all_there (map f (take i xs)) ≡ Some (pairs fs)
      → f (get_or xs i d) ≡ Some (pair g) → made ≡ fs ++ g ∷ [] → all_there (map f (take (i + 1) xs)) ≡ Some (pairs made)
  there_pushed xs i d fs made g h all one is =
      there_more f xs i (get_or xs i d) fs g h (read_any xs i d h) all one ∙ ap (λ gs. Some (pairs gs)) (sym is)

  pub typed_at_end : (xs ys : List X) (i : ℕ) (fs : List TypeField) → length xs ≤ i → all_there (map f (take i xs)) ≡ Some (pairs fs) → xs ≡ ys
      → Some (ty.Record fs) ≡ option_map record_type (all_there (map f ys))
  typed_at_end xs ys i fs h all e =
      sym (subst (λ zs. option_map record_type (all_there (map f zs)) ≡ Some (ty.Record fs)) e (all_typed f xs i fs h all))

-- ---- arguments of routes

form_some : (form : List FormField) (fs : List TypeField) → (form ≡ [] → ⊥) → pairs fs ≡ map form_field_type form → form_argument form ≡ ty.Record fs ∷ []
form_some [] fs n e = absurd (n refl)
form_some (f ∷ form) fs n e = ap (λ x. x ∷ []) (sym (record_is fs ∙ ap record_type e))

module _ (r : Route) (params : List Param) (path : List ValueType) (are : path ≡ map param_type params) (same : params ≡ r.params) (b : Bool) (empty : IsTrue b ↔ (r.form ≡ [])) where
  at_path : path ≡ map param_type r.params
  at_path = are ∙ ap (map param_type) same

  pub route_with : (form : List FormField) (fs : List TypeField) (made : List ValueType) → b ≡ false → form ≡ r.form → pairs fs ≡ map form_field_type form → made ≡ path ++ ty.Record fs ∷ []
      → made ≡ route_params r
  route_with form fs made some e typed is =
      is ∙ ap₂ (λ xs ys. xs ++ ys) at_path (sym (form_some r.form fs (λ n. true≢false (sym (empty.1 n) ∙ some)) (typed ∙ ap (map form_field_type) e)))

  pub route_without : (made : List ValueType) → b ≡ true → made ≡ path → made ≡ route_params r
  route_without made none is =
      is ∙ at_path ∙ sym (append-nil (map param_type r.params)) ∙ ap (λ fs. map param_type r.params ++ form_argument fs) (sym (empty.0 none))
