-- The kind as a function: a constructor has that kind and no other.
use Rattle.std.proofs.Common.{◌≡◌, refl, ap, ap₂, sym, ◌∙◌, ℕ, Bool, true, false, ◌&&◌, if◌then◌else◌, is_none, List, [], codes, bytes_eq, Option, Some, None, true≢false}
use Rattle.std.proofs.lemmas.Slice.Eq.{bytes_eq-Decides}
use mathlib.Core.Former.{Count}
use Rattle.ur_base.specs.declared.refusal.Span.{Span}
use Rattle.ur_syntax.specs.declared.kind.Kind.{Kind}
use Rattle.ur_syntax.specs.declared.kind.Kind.TheVariants as kind
use Rattle.ur_syntax.specs.declared.kind.Kind.TheBlock.{end_of-Kind as nought, more_of-Kind as some}
use Rattle.ur_syntax.specs.declared.con.FieldName.{FieldName}
use Rattle.ur_syntax.specs.declared.con.FieldName.TheVariants as field_name
use Rattle.ur_syntax.specs.declared.con.ConForm.{ConForm, end_of-Con as alone, more_of-Con as its, Row_of-CField, end_of-CField as end, more_of-CField as more, Row_of-RecordField, end_of-RecordField as last, more_of-RecordField as also}
use Rattle.ur_syntax.specs.declared.con.ConForm.TheVariants as con
use Rattle.ur_syntax.specs.declared.con.CField.{CField}
use Rattle.ur_syntax.specs.declared.con.CField.TheVariants as con_field
use Rattle.ur_syntax.specs.Kinds.{arrow, is_plain}
use Rattle.ur_syntax.specs.Names.{own, member, name_text}
use Rattle.ur_syntax.specs.Forms.{apply_con}
use Rattle.ur_syntax.specs.HasKind.{Scope, with_name, kind_known, word_kind, IsWord, HasKind, HaveKinds, RecordHasKinds, IsName, named, member_named, word, name, function, applied, arrow_type, concat, row, record_type, dollar, map_row, form, none, bare, given, no_field, a_field, literal, variable}
use Rattle.ur_kinds.specs.Unknown.{first, unless_kinded, own_kind, unknown_label, unknown_in, unknown_in_fields, unknown_in_record}
use Rattle.ur_kinds.specs.Words.{is_word, is_map, is_xml_form, is_form, is_empty_row}
use Rattle.ur_kinds.specs.Laws.{OneKind, KindedIsKnown}

-- ---- kinds are compared

abbrev pub kinds_eq : Kind → Kind → Bool
kinds_eq kind.Star kind.Star = true
kinds_eq kind.Name kind.Name = true
kinds_eq kind.Row kind.Row = true
kinds_eq (kind.Arrow' _ (some k nought) _ (some j nought)) (kind.Arrow' _ (some l nought) _ (some m nought)) = kinds_eq k l && kinds_eq j m
kinds_eq _ _ = false

both-true : (a b : Bool) → a ≡ true → b ≡ true → (a && b) ≡ true
both-true a b e f = ap₂ (λ x y. x && y) e f

pub kinds_eq-same : (k : Kind) → kinds_eq k k ≡ true
kinds_eq-same kind.Star = refl
kinds_eq-same kind.Name = refl
kinds_eq-same kind.Row = refl
kinds_eq-same (kind.Arrow' _ (some k nought) _ (some j nought)) = both-true (kinds_eq k k) (kinds_eq j j) (kinds_eq-same k) (kinds_eq-same j)

-- ---- the kind

abbrev pub if_star : Option Kind → Bool
if_star (Some kind.Star) = true
if_star _ = false

abbrev pub if_row : Option Kind → Bool
if_row (Some kind.Row) = true
if_row _ = false

abbrev pub if_name : Option Kind → Bool
if_name (Some kind.Name) = true
if_name _ = false

abbrev pub if_maker : Option Kind → Bool
if_maker (Some k) = kinds_eq k (arrow kind.Star kind.Star)
if_maker None = false

abbrev pub when : Bool → Kind → Option Kind
when true k = Some k
when false k = None

abbrev pub to_body : Kind → Option Kind → Option Kind
to_body k (Some j) = when (is_plain k) (arrow k j)
to_body k None = None

abbrev pub given_to : Kind → Option Kind → Option Kind
given_to (kind.Arrow' _ (some k nought) _ (some j nought)) (Some i) = when (kinds_eq k i) j
given_to k o = None

abbrev pub applied_to : Option Kind → Option Kind → Option Kind
applied_to (Some k) o = given_to k o
applied_to None o = None

abbrev pub label_fits : Scope → FieldName → Bool
label_fits s (field_name.Literal a) = true
label_fits s (field_name.Variable x) = if_name (own_kind s x)

abbrev mutual
  pub infer : Scope → ConForm → Option Kind
  infer s (con.Lambda' x k _ (its p c alone)) = to_body k (infer (with_name x k s) c)
  infer s (con.Arrow' _ (its p a alone) _ (its q b alone)) = when (if_star (infer s a) && if_star (infer s b)) kind.Star
  infer s (con.Concat' _ (its p a alone) _ (its q b alone)) = when (if_row (infer s a) && if_row (infer s b)) kind.Row
  infer s (con.App' _ (its p f alone) _ (its q a alone)) =
      if is_form s f then when (if_row (infer s a)) kind.Star else
      if is_map s f then when (if_maker (infer_mapped s f) && if_row (infer s a)) kind.Row else applied_to (infer s f) (infer s a)
  infer s (con.Var x) = own_kind s x
  infer s (con.Member m x) = kind_known (member m x) s
  infer s (con.Name a) = Some kind.Name
  infer s (con.Row' _ fields) = when (infer_fields s fields) kind.Row
  infer s (con.Record' _ fields) = when (infer_record s fields) kind.Star
  infer s (con.RecordOf' _ (its p r alone)) = when (if_row (infer s r)) kind.Star

  pub infer_mapped : Scope → ConForm → Option Kind
  infer_mapped s (con.App' _ h _ (its q f alone)) = infer s f
  infer_mapped s _ = None

  pub infer_fields : {n : _} → Scope → Row_of-CField n → Bool
  infer_fields s end = true
  infer_fields s (more f rest) = infer_field s f && infer_fields s rest

  pub infer_field : Scope → CField → Bool
  infer_field s (con_field.Bare x) = label_fits s x
  infer_field s (con_field.Given' x p c) = label_fits s x && if_star (infer s c)

  pub infer_record : {n : _} → Scope → Row_of-RecordField n → Bool
  infer_record s last = true
  infer_record s (also x p c rest) = (label_fits s x && if_star (infer s c)) && infer_record s rest

-- ---- a head that is `map f` or `xml form []` has no kind of its own

no : {A : Type 0} → false ≡ true → A
no e = absurd (true≢false (sym e))

no-kind : {A : Type 0} {k : Kind} → None ≡ Some k → A
no-kind e = absurd (cc)

pub and-left : (a b : Bool) → (a && b) ≡ true → a ≡ true
and-left true b e = refl
and-left false b e = e

pub and-right : (a b : Bool) → (a && b) ≡ true → b ≡ true
and-right true b e = e
and-right false b e = no e

none-is : (o : Option Kind) → is_none o ≡ true → o ≡ None
none-is None e = refl
none-is (Some k) e = no e

pub word-spelt : (w : List ℕ) (s : Scope) (x : List ℕ) → is_word w s (con.Var x) ≡ true → x ≡ w
word-spelt w s x e = (bytes_eq-Decides x w).0 (and-left (bytes_eq x w) (is_none (kind_known (own x) s)) e)

pub word-hidden : (w : List ℕ) (s : Scope) (x : List ℕ) → is_word w s (con.Var x) ≡ true → kind_known (own x) s ≡ None
word-hidden w s x e = none-is (kind_known (own x) s) (and-right (bytes_eq x w) (is_none (kind_known (own x) s)) e)

-- a word without a kind
own-none : (w : List ℕ) (s : Scope) (x : List ℕ) → word_kind w ≡ None → is_word w s (con.Var x) ≡ true → own_kind s x ≡ None
own-none w s x n e = ap (λ o. first o (word_kind x)) (word-hidden w s x e) ∙ (ap word_kind (word-spelt w s x e) ∙ n)

word-none : (w : List ℕ) (s : Scope) (c : ConForm) → word_kind w ≡ None → is_word w s c ≡ true → infer s c ≡ None
word-none w s (con.Var x) n e = own-none w s x n e
word-none w s _ n e = no e

pub taken : {A : Type 0} (b : Bool) (x y : A) → b ≡ true → (if b then x else y) ≡ x
taken b x y e = ap (λ z. if z then x else y) e

pub left-out : {A : Type 0} (b : Bool) (x y : A) → b ≡ false → (if b then x else y) ≡ y
left-out b x y e = ap (λ z. if z then x else y) e

map-head : (s : Scope) (h : ConForm) (p q : Span) (g : ConForm) → is_word (codes "map") s h ≡ true → infer s (apply_con p h q g) ≡ None
map-head s (con.Var x) p q g e = ap (λ o. applied_to o (infer s g)) (own-none (codes "map") s x refl e)
map-head s _ p q g e = no e

map-none : (s : Scope) (f : ConForm) → is_map s f ≡ true → infer s f ≡ None
map-none s (con.App' _ (its p h alone) _ (its q g alone)) e = map-head s h p q g e
map-none s _ e = no e

-- `xml form`
record XmlHead (s : Scope) (h : ConForm) : Type 0 where
  form_not : is_form s h ≡ false
  map_not : is_map s h ≡ false
  kind_not : infer s h ≡ None

xml-head-of : (s : Scope) (h : ConForm) (p q : Span) (f : ConForm) → is_word (codes "xml") s h ≡ true → XmlHead s (apply_con p h q f)
xml-head-of s (con.Var x) p q f w = record {
  form_not = refl;
  map_not = ap (λ z. bytes_eq z (codes "map") && is_none (kind_known (own x) s)) (word-spelt (codes "xml") s x w);
  kind_not = ap (λ o. applied_to o (infer s f)) (own-none (codes "xml") s x refl w);
}
xml-head-of s _ p q f w = no w

xml-head : (s : Scope) (h : ConForm) → is_xml_form s h ≡ true → XmlHead s h
xml-head s (con.App' _ (its p h alone) _ (its q f alone)) e = xml-head-of s h p q f (and-left (is_word (codes "xml") s h) (is_word (codes "form") s f) e)
xml-head s _ e = no e

form-none : (s : Scope) (f : ConForm) → is_form s f ≡ true → infer s f ≡ None
form-none s (con.App' _ (its p h alone) _ (its q e alone)) t = go (xml-head s h (and-left (is_xml_form s h) (is_empty_row e) t)) where
  go : XmlHead s h → infer s (apply_con p h q e) ≡ None
  go x = left-out (is_form s h) _ _ x.form_not ∙ (left-out (is_map s h) _ _ x.map_not ∙ ap (λ o. applied_to o (infer s e)) x.kind_not)
form-none s _ t = no t

false-unless : (b : Bool) (o : Option Kind) (k : Kind) → (b ≡ true → o ≡ None) → o ≡ Some k → b ≡ false
false-unless true o k h e = no-kind (sym (h refl) ∙ e)
false-unless false o k h e = refl

-- what has a kind of its own is neither
pub no-form : (s : Scope) (f : ConForm) (k : Kind) → infer s f ≡ Some k → is_form s f ≡ false
no-form s f k e = false-unless (is_form s f) (infer s f) k (form-none s f) e

pub no-map : (s : Scope) (f : ConForm) (k : Kind) → infer s f ≡ Some k → is_map s f ≡ false
no-map s f k e = false-unless (is_map s f) (infer s f) k (map-none s f) e

pub infer-applied : (s : Scope) (p q : Span) (f a : ConForm) → is_form s f ≡ false → is_map s f ≡ false → infer s (apply_con p f q a) ≡ applied_to (infer s f) (infer s a)
infer-applied s p q f a e m = left-out (is_form s f) _ _ e ∙ left-out (is_map s f) _ _ m

given_to-same : (k j : Kind) → given_to (arrow k j) (Some k) ≡ Some j
given_to-same k j = ap (λ b. when b j) (kinds_eq-same k)

-- the forms that the rules name
pub map-is : (s : Scope) (o q : Span) (f : ConForm) → IsWord s (codes "map") → is_map s (apply_con o (con.Var (codes "map")) q f) ≡ true
map-is s o q f h = ap is_none h

pub xml_form-is : (s : Scope) (o q t u : Span) → IsWord s (codes "xml") → IsWord s (codes "form") →
    is_form s (apply_con o (apply_con q (con.Var (codes "xml")) t (con.Var (codes "form"))) u (con.Row' [] end)) ≡ true
xml_form-is s o q t u h i = ap₂ (λ x y. (is_none x && is_none y) && true) h i

mutual
  pub kinded : {s : Scope} {c : ConForm} {k : Kind} → HasKind s c k → infer s c ≡ Some k
  kinded (named {x = x} e) = ap (λ o. first o (word_kind x)) e
  kinded (member_named e) = e
  kinded (word {x = x} h e) = ap (λ o. first o (word_kind x)) h ∙ e
  kinded name = refl
  kinded (function {k = k} {j = j} p h) = ap (to_body k) (kinded h) ∙ ap (λ b. when b (arrow k j)) p
  kinded (applied {scope = s} {p = p} {q = q} {f = f} {a = a} {k = k} {j = j} h i) =
      infer-applied s p q f a (no-form s f (arrow k j) (kinded h)) (no-map s f (arrow k j) (kinded h)) ∙ (ap₂ applied_to (kinded h) (kinded i) ∙ given_to-same k j)
  kinded (arrow_type h i) = ap₂ (λ x y. when (if_star x && if_star y) kind.Star) (kinded h) (kinded i)
  kinded (concat h i) = ap₂ (λ x y. when (if_row x && if_row y) kind.Row) (kinded h) (kinded i)
  kinded (row h) = ap (λ b. when b kind.Row) (fields-kinded h)
  kinded (record_type h) = ap (λ b. when b kind.Star) (record-kinded h)
  kinded (dollar h) = ap (λ x. when (if_row x) kind.Star) (kinded h)
  kinded (map_row {scope = s} {o = o} {q = q} {f = f} w h i) = taken (is_map s (apply_con o (con.Var (codes "map")) q f)) _ _ (map-is s o q f w) ∙
      ap₂ (λ x y. when (if_maker x && if_row y) kind.Row) (kinded h) (kinded i)
  kinded (form {scope = s} {o = o} {q = q} {t = t} {u = u} w x h) =
      taken (is_form s (apply_con o (apply_con q (con.Var (codes "xml")) t (con.Var (codes "form"))) u (con.Row' [] end))) _ _ (xml_form-is s o q t u w x) ∙
      ap (λ x. when (if_row x) kind.Star) (kinded h)

  fields-kinded : {s : Scope} {n : Count} {fields : Row_of-CField n} → HaveKinds s n fields → infer_fields s fields ≡ true
  fields-kinded none = refl
  fields-kinded (bare {scope = s} {x = x} {rest = rest} n h) = both-true (label_fits s x) (infer_fields s rest) (label-kinded n) (fields-kinded h)
  fields-kinded (given {scope = s} {x = x} {c = c} {rest = rest} n i h) =
      both-true (label_fits s x && if_star (infer s c)) (infer_fields s rest) (both-true (label_fits s x) (if_star (infer s c)) (label-kinded n) (ap if_star (kinded i))) (fields-kinded h)

  record-kinded : {s : Scope} {n : Count} {fields : Row_of-RecordField n} → RecordHasKinds s n fields → infer_record s fields ≡ true
  record-kinded no_field = refl
  record-kinded (a_field {scope = s} {x = x} {c = c} {rest = rest} n i h) =
      both-true (label_fits s x && if_star (infer s c)) (infer_record s rest) (both-true (label_fits s x) (if_star (infer s c)) (label-kinded n) (ap if_star (kinded i))) (record-kinded h)

  label-kinded : {s : Scope} {x : FieldName} → IsName s x → label_fits s x ≡ true
  label-kinded literal = refl
  label-kinded (variable {x = x} e) = ap (λ o. if_name (first o (word_kind x))) e

kind-in : Option Kind → Kind
kind-in (Some k) = k
kind-in None = kind.Star

pub some-same : (k j : Kind) → Some k ≡ Some j → k ≡ j
unfolding kind-in
some-same k j e = ap kind-in e

pub one-kind : OneKind
one-kind s c k j h i = some-same k j (sym (kinded h) ∙ kinded i)

-- ---- what has a kind has no unknown name

pub first-none : {A : Type 0} (a b : Option A) → a ≡ None → b ≡ None → first a b ≡ None
first-none a b e f = ap₂ (λ x y. first x y) e f

unknown-applied : (s : Scope) (p q : Span) (f a : ConForm) → is_form s f ≡ false → is_map s f ≡ false → unknown_in s f ≡ None → unknown_in s a ≡ None →
    unknown_in s (apply_con p f q a) ≡ None
unknown-applied s p q f a e m h i = first-none _ _ (left-out (is_form s f) _ _ e ∙ (left-out (is_map s f) _ _ m ∙ h)) i

mutual
  pub known : {s : Scope} {c : ConForm} {k : Kind} → HasKind s c k → unknown_in s c ≡ None
  known (named {x = x} e) = ap (λ o. unless_kinded (first o (word_kind x)) x) e
  known (member_named {m = m} {x = x} e) = ap (λ o. unless_kinded o (name_text (Some m) x)) e
  known (word {x = x} h e) = ap₂ (λ o w. unless_kinded (first o w) x) h e
  known name = refl
  known (function p h) = known h
  known (applied {scope = s} {p = p} {q = q} {f = f} {a = a} {k = k} {j = j} h i) =
      unknown-applied s p q f a (no-form s f (arrow k j) (kinded h)) (no-map s f (arrow k j) (kinded h)) (known h) (known i)
  known (arrow_type h i) = first-none _ _ (known h) (known i)
  known (concat h i) = first-none _ _ (known h) (known i)
  known (row h) = fields-known h
  known (record_type h) = record-known h
  known (dollar h) = known h
  known (map_row {scope = s} {o = o} {q = q} {f = f} w h i) =
      first-none _ _ (taken (is_map s (apply_con o (con.Var (codes "map")) q f)) _ _ (map-is s o q f w) ∙ known h) (known i)
  known (form {scope = s} {o = o} {q = q} {t = t} {u = u} w x h) =
      first-none _ _ (taken (is_form s (apply_con o (apply_con q (con.Var (codes "xml")) t (con.Var (codes "form"))) u (con.Row' [] end))) _ _ (xml_form-is s o q t u w x)) (known h)

  fields-known : {s : Scope} {n : Count} {fields : Row_of-CField n} → HaveKinds s n fields → unknown_in_fields s fields ≡ None
  fields-known none = refl
  fields-known (bare n h) = first-none _ _ (label-known n) (fields-known h)
  fields-known (given n i h) = first-none _ _ (first-none _ _ (label-known n) (known i)) (fields-known h)

  record-known : {s : Scope} {n : Count} {fields : Row_of-RecordField n} → RecordHasKinds s n fields → unknown_in_record s fields ≡ None
  record-known no_field = refl
  record-known (a_field n i h) = first-none _ _ (first-none _ _ (label-known n) (known i)) (record-known h)

  label-known : {s : Scope} {x : FieldName} → IsName s x → unknown_label s x ≡ None
  label-known literal = refl
  label-known (variable {x = x} e) = ap (λ o. unless_kinded (first o (word_kind x)) x) e

pub kinded-known : KindedIsKnown
kinded-known s c k h = known h
