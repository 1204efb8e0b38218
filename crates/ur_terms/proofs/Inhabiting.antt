-- A value of a type, seen one level deep over plain lists.
use Rattle.std.proofs.Common.{◌≡◌, ℕ, List, [], ◌∷◌, Option, Some, None, refl, sym, subst, ap, ◌∙◌}
use Rattle.std.specs.Prelude.{slice_get}
use Rattle.std.specs.List.{AllByRecursion}
use mathlib.Core.Former.{Count}
use denote.Hole.Carrier as Carrier
use Rattle.std.specs.Str.{IsUtf8}
use Rattle.ur_base.specs.declared.names.Name.{Name}
use Rattle.ur_values.specs.declared.types.ValueType.{ValueType}
use Rattle.ur_values.specs.declared.types.ValueType.TheVariants as ty
use Rattle.ur_values.specs.declared.value.Value.{Value, out-Value, roll-Value, roll-out-Value, Row_of-Value, end_of-Value, more_of-Value, Row_of-Value-Row-0-2, end_of-Value-Row-0-2, more_of-Value-Row-0-2, items-the_row-Value, items-the_row-Value-Row-0-2, items_hidden-the_row-Value-1, items_hidden-the_row-Value-Row-0-2-2}
use Rattle.ur_values.specs.declared.value.Value.TheVariants as v
use Rattle.ur_values.specs.declared.value.Node.TheBlock as block
use Rattle.ur_values.specs.declared.value.Node.TheOpen as o
use Rattle.ur_values.specs.Values.{IsInt}
use Rattle.ur_terms.specs.Values.{Open}
use Rattle.ur_terms.specs.Types.{record_type, IsXml}
use Rattle.ur_terms.specs.Inhabits.{Variants, Inhabits, AllInhabit, FieldsInhabit}

pub rolled : (x : Value) (y : Open) → out-Value x ≡ y → x ≡ roll-Value y
rolled x y e = sym (roll-out-Value x) ∙ ap roll-Value e

abbrev values_of : Value → (n : Count) × Row_of-Value n
values_of (v.Many' _ row) = (_, row)
values_of _ = (_, end_of-Value)

abbrev fields_in : Value → (n : Count) × Row_of-Value-Row-0-2 n
fields_in (v.Row' _ row) = (_, row)
fields_in _ = (_, end_of-Value-Row-0-2)

module _ (own : Value → Type 0) (vs : Variants) where
  abbrev pub Of : Value → ValueType → Type 0
  Of x r = Inhabits own vs x r

  -- fields with the names and types of these
  abbrev pub FieldsOf : List (Name × Value) → List (Name × ValueType) → Type 0
  FieldsOf [] [] = Unit {0}
  FieldsOf (f ∷ fs) (g ∷ gs) = (f.0 ≡ g.0) × Of f.1 g.1 × FieldsOf fs gs
  FieldsOf _ _ = ⊥

  abbrev pub HeldOf : Option Value → Option ValueType → Type 0
  HeldOf None arg = arg ≡ None
  HeldOf (Some x) arg = (a : ValueType) × (arg ≡ Some a) × Of x a

  abbrev pub OpenOf : Open → ValueType → Type 0
  OpenOf (o.Int i) r = (r ≡ ty.Int) × IsInt i
  OpenOf (o.Bool b) r = r ≡ ty.Bool
  OpenOf (o.Str s) r = (r ≡ ty.Str) × IsUtf8 s
  OpenOf (o.Row fields) r = (fs : List (Name × ValueType)) × (r ≡ record_type fs) × FieldsOf fields fs
  OpenOf (o.Many xs) r = (a : ValueType) × (r ≡ ty.Many a) × AllByRecursion (λ y. Of y a) xs
  OpenOf o.Absent r = (a : ValueType) × (r ≡ ty.Opt a)
  OpenOf (o.Present x) r = (a : ValueType) × (r ≡ ty.Opt a) × Of x a
  OpenOf (o.Tagged c x) r = (d : ℕ) × (arg : Option ValueType) × (r ≡ ty.Datatype d) × (slice_get vs c ≡ Some (d, arg)) × HeldOf x arg
  OpenOf (o.Markup nodes) r = IsXml r × own (v.Markup nodes)

  each_of_row : (n : Count) (row : Row_of-Value n) (r : ValueType) → AllInhabit own vs row r → AllByRecursion (λ y. Of y r) (items-the_row-Value n row)
  each_of_row n end_of-Value r h = tt
  each_of_row n (more_of-Value x rest) r h = (h.0, each_of_row _ rest r h.1)

  row_of_each : (n : Count) (row : Row_of-Value n) (r : ValueType) → AllByRecursion (λ y. Of y r) (items-the_row-Value n row) → AllInhabit own vs row r
  row_of_each n end_of-Value r h = tt
  row_of_each n (more_of-Value x rest) r h = (h.0, row_of_each _ rest r h.1)

  fields_of_row : (n : Count) (row : Row_of-Value-Row-0-2 n) (fs : List (Name × ValueType)) → FieldsInhabit own vs row fs → FieldsOf (items-the_row-Value-Row-0-2 n row) fs
  fields_of_row n end_of-Value-Row-0-2 fs h = subst (FieldsOf []) (sym h) tt
  fields_of_row n (more_of-Value-Row-0-2 {n = m} name x rest) fs (a, gs, is, h, hs) =
      subst (FieldsOf ((name, x) ∷ items-the_row-Value-Row-0-2 m rest)) (sym is) (refl, h, fields_of_row m rest gs hs)

  row_of_fields : (n : Count) (row : Row_of-Value-Row-0-2 n) (fs : List (Name × ValueType)) → FieldsOf (items-the_row-Value-Row-0-2 n row) fs → FieldsInhabit own vs row fs
  row_of_fields n end_of-Value-Row-0-2 [] h = refl
  row_of_fields n end_of-Value-Row-0-2 (f ∷ fs) h = absurd h
  row_of_fields n (more_of-Value-Row-0-2 name x rest) [] h = absurd h
  row_of_fields n (more_of-Value-Row-0-2 {n = m} name x rest) (f ∷ fs) (e, h, hs) =
      (f.1, fs, ap (λ k. (k, f.1) ∷ fs) (sym e), h, row_of_fields m rest fs hs)

  -- ---- at the plain constructors, from there and back

  pub of-Many : (xs : List Value) (r : ValueType) → Of (v.Many xs) r → OpenOf (o.Many xs) r
  of-Many xs r (a, is, h) =
      let row = values_of (v.Many xs) in (a, is, subst (AllByRecursion (λ y. Of y a)) (items_hidden-the_row-Value-1 xs) (each_of_row row.0 row.1 a h))

  pub to-Many : (xs : List Value) (r : ValueType) → OpenOf (o.Many xs) r → Of (v.Many xs) r
  to-Many xs r (a, is, h) =
      let row = values_of (v.Many xs) in (a, is, row_of_each row.0 row.1 a (subst (AllByRecursion (λ y. Of y a)) (sym (items_hidden-the_row-Value-1 xs)) h))

  pub of-Row : (fields : List (Name × Value)) (r : ValueType) → Of (v.Row fields) r → OpenOf (o.Row fields) r
  of-Row fields r (fs, is, h) =
      let row = fields_in (v.Row fields) in (fs, is, subst (λ gs. FieldsOf gs fs) (items_hidden-the_row-Value-Row-0-2-2 fields) (fields_of_row row.0 row.1 fs h))

  pub to-Row : (fields : List (Name × Value)) (r : ValueType) → OpenOf (o.Row fields) r → Of (v.Row fields) r
  to-Row fields r (fs, is, h) =
      let row = fields_in (v.Row fields) in (fs, is, row_of_fields row.0 row.1 fs (subst (λ gs. FieldsOf gs fs) (sym (items_hidden-the_row-Value-Row-0-2-2 fields)) h))

  pub of-Present : (x : Value) (r : ValueType) → Of (v.Present x) r → OpenOf (o.Present x) r
  unfolding block.hidden-the_row-Value-3 Carrier.hidden
  of-Present x r (a, is, h) = (a, is, h.0)

  pub to-Present : (x : Value) (r : ValueType) → OpenOf (o.Present x) r → Of (v.Present x) r
  unfolding block.hidden-the_row-Value-3 Carrier.hidden
  to-Present x r (a, is, h) = (a, is, (h, tt))

  pub of-Tagged : (c : ℕ) (x : Option Value) (r : ValueType) → Of (v.Tagged c x) r → OpenOf (o.Tagged c x) r
  unfolding block.hidden-the_row-Value-3 Carrier.hidden
  of-Tagged c None r h = h
  of-Tagged c (Some x) r (d, arg, is, at, (a, e, h)) = (d, arg, is, at, (a, e, h.0))

  pub to-Tagged : (c : ℕ) (x : Option Value) (r : ValueType) → OpenOf (o.Tagged c x) r → Of (v.Tagged c x) r
  unfolding block.hidden-the_row-Value-3 Carrier.hidden
  to-Tagged c None r h = h
  to-Tagged c (Some x) r (d, arg, is, at, (a, e, h)) = (d, arg, is, at, (a, e, (h, tt)))

  pub opened : (x : Value) (r : ValueType) → Of x r → OpenOf (out-Value x) r
  opened x r h = at (out-Value x) refl
    where
      at : (y : Open) → out-Value x ≡ y → OpenOf y r
      at (o.Int i) e = subst (λ z. Of z r) (rolled x _ e ∙ v.rolls-Int i) h
      at (o.Bool b) e = subst (λ z. Of z r) (rolled x _ e ∙ v.rolls-Bool b) h
      at (o.Str t) e = subst (λ z. Of z r) (rolled x _ e ∙ v.rolls-Str t) h
      at (o.Row fields) e = of-Row fields r (subst (λ z. Of z r) (rolled x _ e ∙ v.rolls-Row fields) h)
      at (o.Many xs) e = of-Many xs r (subst (λ z. Of z r) (rolled x _ e ∙ v.rolls-Many xs) h)
      at o.Absent e = subst (λ z. Of z r) (rolled x _ e ∙ v.rolls-Absent) h
      at (o.Present y) e = of-Present y r (subst (λ z. Of z r) (rolled x _ e ∙ v.rolls-Present y) h)
      at (o.Tagged c y) e = of-Tagged c y r (subst (λ z. Of z r) (rolled x _ e ∙ v.rolls-Tagged c y) h)
      at (o.Markup nodes) e = subst (λ z. Of z r) (rolled x _ e ∙ v.rolls-Markup nodes) h
