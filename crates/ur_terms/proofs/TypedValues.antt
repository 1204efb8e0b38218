-- What a value of each type is.
use Rattle.std.proofs.Common.{◌≡◌, ◌⊎◌, inl, inr, ℕ, List, [], ◌∷◌, Option, Some, Bool, true, false, refl, sym, subst, ap, ◌∙◌}
use Rattle.std.specs.Prelude.{ℤ, slice_get, map}
use Rattle.std.specs.List.{AllByRecursion}
use Rattle.std.specs.Str.{IsUtf8}
use Rattle.std.proofs.lemmas.Bool.{false≢true}
use Rattle.ur_base.specs.declared.names.Name.{Name}
use Rattle.ur_values.specs.declared.types.TypeField.{TypeField}
use Rattle.ur_values.specs.declared.types.ValueType.{ValueType, ValueType-F, out-ValueType}
use Rattle.ur_values.specs.declared.types.ValueType.TheVariants as ty
use Rattle.ur_values.specs.declared.types.ValueType.TheOpen as oty
use Rattle.ur_values.specs.declared.value.Value.{Value, out-Value}
use Rattle.ur_values.specs.declared.value.Value.TheVariants as v
use Rattle.ur_values.specs.declared.value.Node.{Node}
use Rattle.ur_values.specs.declared.value.Node.TheOpen as o
use Rattle.ur_values.specs.Values.{IsInt}
use Rattle.ur_terms.specs.Values.{Open}
use Rattle.ur_terms.specs.Types.{record_type, typed_field, IsXml, plain_xml, form_xml, IsPlainXml, xml_page, xml_body, xml_table, xml_row}
use Rattle.ur_terms.specs.Inhabits.{Variants}
use Rattle.ur_terms.proofs.Inhabiting.{Of, OpenOf, FieldsOf, HeldOf, opened, rolled}

-- ---- types

abbrev is_xml : ValueType → Bool
is_xml ty.Page = true
is_xml ty.Xbody = true
is_xml ty.Xtable = true
is_xml ty.Xtr = true
is_xml (ty.Form' _ fields) = true
is_xml _ = false

plain_true : {r : ValueType} → IsPlainXml r → is_xml r ≡ true
plain_true xml_page = refl
plain_true xml_body = refl
plain_true xml_table = refl
plain_true xml_row = refl

xml_true : (r : ValueType) → IsXml r → is_xml r ≡ true
xml_true r (plain_xml of h) = plain_true h
xml_true _ (form_xml fs) = refl

abbrev field_of : TypeField → Name × ValueType
field_of t = (t.name, t.of)

fields_back : (fs : List (Name × ValueType)) → map field_of (map typed_field fs) ≡ fs
fields_back [] = refl
fields_back (f ∷ fs) = ap (λ gs. f ∷ gs) (fields_back fs)

some_same : {A : Type 0} {x y : A} → Some x ≡ Some y → x ≡ y
some_same e = cc

abbrev OpenType : Type 0
OpenType = ValueType-F ValueType TypeField

many_same : (a b : ValueType) → ty.Many a ≡ ty.Many b → a ≡ b
many_same a b e = inner (sym (ty.outs-Many a) ∙ ap out-ValueType e ∙ ty.outs-Many b)
  where
    inner : ◌≡◌ {A = OpenType} (oty.Many a) (oty.Many b) → a ≡ b
    inner e = cc

option_same : (a b : ValueType) → ty.Opt a ≡ ty.Opt b → a ≡ b
option_same a b e = inner (sym (ty.outs-Opt a) ∙ ap out-ValueType e ∙ ty.outs-Opt b)
  where
    inner : ◌≡◌ {A = OpenType} (oty.Opt a) (oty.Opt b) → a ≡ b
    inner e = cc

data_same : (a b : ℕ) → ty.Datatype a ≡ ty.Datatype b → a ≡ b
data_same a b e = cc

pub record_same : (fs gs : List (Name × ValueType)) → record_type fs ≡ record_type gs → fs ≡ gs
record_same fs gs e =
    sym (fields_back fs) ∙ ap (map field_of) (inner (sym (ty.outs-Record (map typed_field fs)) ∙ ap out-ValueType e ∙ ty.outs-Record (map typed_field gs))) ∙ fields_back gs
  where
    inner : ◌≡◌ {A = OpenType} (oty.Record (map typed_field fs)) (oty.Record (map typed_field gs)) → map typed_field fs ≡ map typed_field gs
    inner e = cc

-- ---- values

module _ (own : Value → Type 0) (vs : Variants) where
  -- an int
  pub int_of : (x : Value) → Of own vs x ty.Int → (i : ℤ) × (x ≡ v.Int i) × IsInt i
  int_of x h = at (out-Value x) refl (opened own vs x ty.Int h)
    where
      at : (y : Open) → out-Value x ≡ y → OpenOf own vs y ty.Int → (i : ℤ) × (x ≡ v.Int i) × IsInt i
      at (o.Int i) e h = (i, rolled x _ e ∙ v.rolls-Int i, h.1)
      at (o.Bool b) e is = absurd (apart is)
        where
          apart : ty.Int ≡ ty.Bool → ⊥
          apart is = cc
      at (o.Str t) e (is, _) = absurd (apart is)
        where
          apart : ty.Int ≡ ty.Str → ⊥
          apart is = cc
      at (o.Row gs) e (fs, is, _) = absurd (apart is)
        where
          apart : ty.Int ≡ record_type fs → ⊥
          apart is = cc
      at (o.Many xs) e (b, is, _) = absurd (apart is)
        where
          apart : ty.Int ≡ ty.Many b → ⊥
          apart is = cc
      at o.Absent e (b, is) = absurd (apart is)
        where
          apart : ty.Int ≡ ty.Opt b → ⊥
          apart is = cc
      at (o.Present y) e (b, is, _) = absurd (apart is)
        where
          apart : ty.Int ≡ ty.Opt b → ⊥
          apart is = cc
      at (o.Tagged c y) e (d2, arg, is, _, _) = absurd (apart is)
        where
          apart : ty.Int ≡ ty.Datatype d2 → ⊥
          apart is = cc
      at (o.Markup nodes) e (xml, _) = absurd (false≢true (xml_true ty.Int xml))

  -- a bool
  pub bool_of : (x : Value) → Of own vs x ty.Bool → (b : Bool) × (x ≡ v.Bool b)
  bool_of x h = at (out-Value x) refl (opened own vs x ty.Bool h)
    where
      at : (y : Open) → out-Value x ≡ y → OpenOf own vs y ty.Bool → (b : Bool) × (x ≡ v.Bool b)
      at (o.Int i) e (is, _) = absurd (apart is)
        where
          apart : ty.Bool ≡ ty.Int → ⊥
          apart is = cc
      at (o.Bool b) e h = (b, rolled x _ e ∙ v.rolls-Bool b)
      at (o.Str t) e (is, _) = absurd (apart is)
        where
          apart : ty.Bool ≡ ty.Str → ⊥
          apart is = cc
      at (o.Row gs) e (fs, is, _) = absurd (apart is)
        where
          apart : ty.Bool ≡ record_type fs → ⊥
          apart is = cc
      at (o.Many xs) e (b, is, _) = absurd (apart is)
        where
          apart : ty.Bool ≡ ty.Many b → ⊥
          apart is = cc
      at o.Absent e (b, is) = absurd (apart is)
        where
          apart : ty.Bool ≡ ty.Opt b → ⊥
          apart is = cc
      at (o.Present y) e (b, is, _) = absurd (apart is)
        where
          apart : ty.Bool ≡ ty.Opt b → ⊥
          apart is = cc
      at (o.Tagged c y) e (d2, arg, is, _, _) = absurd (apart is)
        where
          apart : ty.Bool ≡ ty.Datatype d2 → ⊥
          apart is = cc
      at (o.Markup nodes) e (xml, _) = absurd (false≢true (xml_true ty.Bool xml))

  -- a text
  pub text_of : (x : Value) → Of own vs x ty.Str → (s : List ℕ) × (x ≡ v.Str s) × IsUtf8 s
  text_of x h = at (out-Value x) refl (opened own vs x ty.Str h)
    where
      at : (y : Open) → out-Value x ≡ y → OpenOf own vs y ty.Str → (s : List ℕ) × (x ≡ v.Str s) × IsUtf8 s
      at (o.Int i) e (is, _) = absurd (apart is)
        where
          apart : ty.Str ≡ ty.Int → ⊥
          apart is = cc
      at (o.Bool b) e is = absurd (apart is)
        where
          apart : ty.Str ≡ ty.Bool → ⊥
          apart is = cc
      at (o.Str t) e h = (t, rolled x _ e ∙ v.rolls-Str t, h.1)
      at (o.Row gs) e (fs, is, _) = absurd (apart is)
        where
          apart : ty.Str ≡ record_type fs → ⊥
          apart is = cc
      at (o.Many xs) e (b, is, _) = absurd (apart is)
        where
          apart : ty.Str ≡ ty.Many b → ⊥
          apart is = cc
      at o.Absent e (b, is) = absurd (apart is)
        where
          apart : ty.Str ≡ ty.Opt b → ⊥
          apart is = cc
      at (o.Present y) e (b, is, _) = absurd (apart is)
        where
          apart : ty.Str ≡ ty.Opt b → ⊥
          apart is = cc
      at (o.Tagged c y) e (d2, arg, is, _, _) = absurd (apart is)
        where
          apart : ty.Str ≡ ty.Datatype d2 → ⊥
          apart is = cc
      at (o.Markup nodes) e (xml, _) = absurd (false≢true (xml_true ty.Str xml))

  -- a record
  pub record_of : (fs : List (Name × ValueType)) (x : Value) → Of own vs x (record_type fs) → (gs : List (Name × Value)) × (x ≡ v.Row gs) × FieldsOf own vs gs fs
  record_of fs x h = at (out-Value x) refl (opened own vs x (record_type fs) h)
    where
      at : (y : Open) → out-Value x ≡ y → OpenOf own vs y (record_type fs) → (gs : List (Name × Value)) × (x ≡ v.Row gs) × FieldsOf own vs gs fs
      at (o.Int i) e (is, _) = absurd (apart is)
        where
          apart : (record_type fs) ≡ ty.Int → ⊥
          apart is = cc
      at (o.Bool b) e is = absurd (apart is)
        where
          apart : (record_type fs) ≡ ty.Bool → ⊥
          apart is = cc
      at (o.Str t) e (is, _) = absurd (apart is)
        where
          apart : (record_type fs) ≡ ty.Str → ⊥
          apart is = cc
      at (o.Row gs) e (fs2, is, h) = (gs, rolled x _ e ∙ v.rolls-Row gs, subst (FieldsOf own vs gs) (sym (record_same fs fs2 is)) h)
      at (o.Many xs) e (b, is, _) = absurd (apart is)
        where
          apart : (record_type fs) ≡ ty.Many b → ⊥
          apart is = cc
      at o.Absent e (b, is) = absurd (apart is)
        where
          apart : (record_type fs) ≡ ty.Opt b → ⊥
          apart is = cc
      at (o.Present y) e (b, is, _) = absurd (apart is)
        where
          apart : (record_type fs) ≡ ty.Opt b → ⊥
          apart is = cc
      at (o.Tagged c y) e (d2, arg, is, _, _) = absurd (apart is)
        where
          apart : (record_type fs) ≡ ty.Datatype d2 → ⊥
          apart is = cc
      at (o.Markup nodes) e (xml, _) = absurd (false≢true (xml_true (record_type fs) xml))

  -- a list
  pub many_of : (a : ValueType) (x : Value) → Of own vs x (ty.Many a) → (xs : List Value) × (x ≡ v.Many xs) × AllByRecursion (λ y. Of own vs y a) xs
  many_of a x h = at (out-Value x) refl (opened own vs x (ty.Many a) h)
    where
      at : (y : Open) → out-Value x ≡ y → OpenOf own vs y (ty.Many a) → (xs : List Value) × (x ≡ v.Many xs) × AllByRecursion (λ y. Of own vs y a) xs
      at (o.Int i) e (is, _) = absurd (apart is)
        where
          apart : (ty.Many a) ≡ ty.Int → ⊥
          apart is = cc
      at (o.Bool b) e is = absurd (apart is)
        where
          apart : (ty.Many a) ≡ ty.Bool → ⊥
          apart is = cc
      at (o.Str t) e (is, _) = absurd (apart is)
        where
          apart : (ty.Many a) ≡ ty.Str → ⊥
          apart is = cc
      at (o.Row gs) e (fs, is, _) = absurd (apart is)
        where
          apart : (ty.Many a) ≡ record_type fs → ⊥
          apart is = cc
      at (o.Many xs) e (b, is, h) = (xs, rolled x _ e ∙ v.rolls-Many xs, subst (λ t. AllByRecursion (λ y. Of own vs y t) xs) (sym (many_same a b is)) h)
      at o.Absent e (b, is) = absurd (apart is)
        where
          apart : (ty.Many a) ≡ ty.Opt b → ⊥
          apart is = cc
      at (o.Present y) e (b, is, _) = absurd (apart is)
        where
          apart : (ty.Many a) ≡ ty.Opt b → ⊥
          apart is = cc
      at (o.Tagged c y) e (d2, arg, is, _, _) = absurd (apart is)
        where
          apart : (ty.Many a) ≡ ty.Datatype d2 → ⊥
          apart is = cc
      at (o.Markup nodes) e (xml, _) = absurd (false≢true (xml_true (ty.Many a) xml))

  -- an optional value
  pub option_of : (a : ValueType) (x : Value) → Of own vs x (ty.Opt a) → (x ≡ v.Absent) ⊎ ((y : Value) × (x ≡ v.Present y) × Of own vs y a)
  option_of a x h = at (out-Value x) refl (opened own vs x (ty.Opt a) h)
    where
      at : (y : Open) → out-Value x ≡ y → OpenOf own vs y (ty.Opt a) → (x ≡ v.Absent) ⊎ ((y : Value) × (x ≡ v.Present y) × Of own vs y a)
      at (o.Int i) e (is, _) = absurd (apart is)
        where
          apart : (ty.Opt a) ≡ ty.Int → ⊥
          apart is = cc
      at (o.Bool b) e is = absurd (apart is)
        where
          apart : (ty.Opt a) ≡ ty.Bool → ⊥
          apart is = cc
      at (o.Str t) e (is, _) = absurd (apart is)
        where
          apart : (ty.Opt a) ≡ ty.Str → ⊥
          apart is = cc
      at (o.Row gs) e (fs, is, _) = absurd (apart is)
        where
          apart : (ty.Opt a) ≡ record_type fs → ⊥
          apart is = cc
      at (o.Many xs) e (b, is, _) = absurd (apart is)
        where
          apart : (ty.Opt a) ≡ ty.Many b → ⊥
          apart is = cc
      at o.Absent e h = inl (rolled x _ e ∙ v.rolls-Absent)
      at (o.Present y) e (b, is, h) = inr (y, rolled x _ e ∙ v.rolls-Present y, subst (Of own vs y) (sym (option_same a b is)) h)
      at (o.Tagged c y) e (d2, arg, is, _, _) = absurd (apart is)
        where
          apart : (ty.Opt a) ≡ ty.Datatype d2 → ⊥
          apart is = cc
      at (o.Markup nodes) e (xml, _) = absurd (false≢true (xml_true (ty.Opt a) xml))

  -- a datatype's constructor with its argument
  pub data_of : (d : ℕ) (x : Value) → Of own vs x (ty.Datatype d) → (c : ℕ) × (y : Option Value) × (arg : Option ValueType) × (x ≡ v.Tagged c y) × (slice_get vs c ≡ Some (d, arg)) × HeldOf own vs y arg
  data_of d x h = at (out-Value x) refl (opened own vs x (ty.Datatype d) h)
    where
      at : (y : Open) → out-Value x ≡ y → OpenOf own vs y (ty.Datatype d) → (c : ℕ) × (y : Option Value) × (arg : Option ValueType) × (x ≡ v.Tagged c y) × (slice_get vs c ≡ Some (d, arg)) × HeldOf own vs y arg
      at (o.Int i) e (is, _) = absurd (apart is)
        where
          apart : (ty.Datatype d) ≡ ty.Int → ⊥
          apart is = cc
      at (o.Bool b) e is = absurd (apart is)
        where
          apart : (ty.Datatype d) ≡ ty.Bool → ⊥
          apart is = cc
      at (o.Str t) e (is, _) = absurd (apart is)
        where
          apart : (ty.Datatype d) ≡ ty.Str → ⊥
          apart is = cc
      at (o.Row gs) e (fs, is, _) = absurd (apart is)
        where
          apart : (ty.Datatype d) ≡ record_type fs → ⊥
          apart is = cc
      at (o.Many xs) e (b, is, _) = absurd (apart is)
        where
          apart : (ty.Datatype d) ≡ ty.Many b → ⊥
          apart is = cc
      at o.Absent e (b, is) = absurd (apart is)
        where
          apart : (ty.Datatype d) ≡ ty.Opt b → ⊥
          apart is = cc
      at (o.Present y) e (b, is, _) = absurd (apart is)
        where
          apart : (ty.Datatype d) ≡ ty.Opt b → ⊥
          apart is = cc
      at (o.Tagged c y) e (d2, arg, is, found, h) = (c, y, arg, rolled x _ e ∙ v.rolls-Tagged c y, subst (λ n. slice_get vs c ≡ Some (n, arg)) (sym (data_same d d2 is)) found, h)
      at (o.Markup nodes) e (xml, _) = absurd (false≢true (xml_true (ty.Datatype d) xml))

  -- XML
  pub xml_of : (r : ValueType) → IsXml r → (x : Value) → Of own vs x r → (nodes : List Node) × (x ≡ v.Markup nodes) × own (v.Markup nodes)
  xml_of r xml x h = at (out-Value x) refl (opened own vs x r h)
    where
      at : (y : Open) → out-Value x ≡ y → OpenOf own vs y r → (nodes : List Node) × (x ≡ v.Markup nodes) × own (v.Markup nodes)
      at (o.Int i) e (is, _) = absurd (false≢true (sym (ap is_xml is) ∙ xml_true r xml))
      at (o.Bool b) e is = absurd (false≢true (sym (ap is_xml is) ∙ xml_true r xml))
      at (o.Str t) e (is, _) = absurd (false≢true (sym (ap is_xml is) ∙ xml_true r xml))
      at (o.Row gs) e (fs, is, _) = absurd (false≢true (sym (ap is_xml is) ∙ xml_true r xml))
      at (o.Many xs) e (b, is, _) = absurd (false≢true (sym (ap is_xml is) ∙ xml_true r xml))
      at o.Absent e (b, is) = absurd (false≢true (sym (ap is_xml is) ∙ xml_true r xml))
      at (o.Present y) e (b, is, _) = absurd (false≢true (sym (ap is_xml is) ∙ xml_true r xml))
      at (o.Tagged c y) e (d2, arg, is, _, _) = absurd (false≢true (sym (ap is_xml is) ∙ xml_true r xml))
      at (o.Markup nodes) e h = (nodes, rolled x _ e ∙ v.rolls-Markup nodes, h.1)
