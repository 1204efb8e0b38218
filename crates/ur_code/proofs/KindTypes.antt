-- Values of kinds are values of the kinds' types, and back.
use Rattle.std.proofs.Common.{◌≡◌, ◌⊎◌, inl, inr, List, [], ◌∷◌, Some, is_some, refl, sym, ap, subst}
use Rattle.std.specs.Prelude.{map}
use Rattle.std.specs.List.{AllZip}
use Rattle.ur_values.specs.declared.types.ValueType.TheVariants as ty
use Rattle.ur_values.specs.declared.value.Value.{Value, end_of-Value, more_of-Value}
use Rattle.ur_values.specs.declared.value.Value.TheVariants as v
use Rattle.ur_values.specs.declared.schema.ColumnKind.{ColumnKind}
use Rattle.ur_values.specs.declared.schema.ColumnKind.TheVariants as kind
use Rattle.ur_values.specs.Kinds.{inside}
use Rattle.ur_values.specs.Store.{FitsBasic, FitsOption, FitsKind, FitKinds}
use Rattle.ur_values.proofs.Fitting.{absent_fits, present_fits}
use Rattle.ur_terms.specs.Inhabits.{Variants}
use Rattle.ur_terms.proofs.Inhabiting.{Of}
use Rattle.ur_terms.proofs.TypedValues.{int_of, bool_of, text_of, option_of}
use Rattle.ur_code.specs.RowType.{kind_type}

module _ (own : Value → Type 0) (vs : Variants) where
  basic_value : (x : Value) (k : ColumnKind) → FitsBasic x k → Of own vs x (kind_type k)
  basic_value (v.Int i) kind.Int h = (refl, h)
  basic_value (v.Str t) kind.Str h = (refl, h)
  basic_value (v.Bool b) kind.Bool h = refl
  basic_value _ _ h = absurd h

  option_value : (k : ColumnKind) (x : Value) → FitsOption k x → Of own vs x (ty.Opt (kind_type k))
  option_value k v.Absent h = (kind_type k, refl)
  option_value k (v.Present' _ (more_of-Value x end_of-Value)) h = (kind_type k, refl, (basic_value x k h, tt))
  option_value k _ h = absurd h

  pub kind_value : (x : Value) (k : ColumnKind) → FitsKind x k → Of own vs x (kind_type k)
  kind_value x kind.Int h = basic_value x kind.Int h
  kind_value x kind.Str h = basic_value x kind.Str h
  kind_value x kind.Bool h = basic_value x kind.Bool h
  kind_value x kind.OptInt h = option_value kind.Int x h
  kind_value x kind.OptStr h = option_value kind.Str x h
  kind_value x kind.OptBool h = option_value kind.Bool x h

  int_kind : (x : Value) → Of own vs x ty.Int → FitsKind x kind.Int
  int_kind x h = let i = int_of own vs x h in subst (λ y. FitsKind y kind.Int) (sym i.1) i.2

  text_kind : (x : Value) → Of own vs x ty.Str → FitsKind x kind.Str
  text_kind x h = let t = text_of own vs x h in subst (λ y. FitsKind y kind.Str) (sym t.1) t.2

  bool_kind : (x : Value) → Of own vs x ty.Bool → FitsKind x kind.Bool
  bool_kind x h = let b = bool_of own vs x h in subst (λ y. FitsKind y kind.Bool) (sym b.1) tt

  -- a value of an option's type fits the optional kind
  option_kind : (j k : ColumnKind) (x : Value) → inside k ≡ Some j → ((y : Value) → Of own vs y (kind_type j) → FitsKind y j) →
      Of own vs x (ty.Opt (kind_type j)) → FitsKind x k
  option_kind j k x e back h = go (option_of own vs (kind_type j) x h)
    where
      go : (x ≡ v.Absent) ⊎ ((y : Value) × (x ≡ v.Present y) × Of own vs y (kind_type j)) → FitsKind x k
      go (inl absent) = subst (λ z. FitsKind z k) (sym absent) (absent_fits k (ap is_some e))
      go (inr (y, present, g)) = subst (λ z. FitsKind z k) (sym present) (present_fits y j k e (back y g))

  pub value_kind : (x : Value) (k : ColumnKind) → Of own vs x (kind_type k) → FitsKind x k
  value_kind x kind.Int h = int_kind x h
  value_kind x kind.Str h = text_kind x h
  value_kind x kind.Bool h = bool_kind x h
  value_kind x kind.OptInt h = option_kind kind.Int kind.OptInt x refl int_kind h
  value_kind x kind.OptStr h = option_kind kind.Str kind.OptStr x refl text_kind h
  value_kind x kind.OptBool h = option_kind kind.Bool kind.OptBool x refl bool_kind h

  pub values_kinds : (xs : List Value) (ks : List ColumnKind) → AllZip (λ x t. Of own vs x t) xs (map kind_type ks) → FitKinds xs ks
  values_kinds [] [] h = tt
  values_kinds [] (k ∷ ks) h = absurd h
  values_kinds (x ∷ xs) [] h = absurd h
  values_kinds (x ∷ xs) (k ∷ ks) h = (value_kind x k h.0, values_kinds xs ks h.1)
