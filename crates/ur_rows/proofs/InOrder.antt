-- Normal forms are in order: what substitution, `map` and `nf` give.
use Rattle.std.proofs.Common.{◌≡◌, refl, ap, ap₂, sym, ◌∙◌, ℕ, zero, suc, ◌+◌, ◌-◌, Bool, true, false, not, ◌&&◌, ◌==◌, nat_lt, ◌⊎◌, inl, inr, List, [], ◌∷◌, map, Option, Some, None, bytes_eq, codes, arith, subst, true≢false, if◌then◌else◌}
use Rattle.std.proofs.lemmas.Bool.{cases_Bool}
use Rattle.ur_syntax.specs.declared.kind.Kind.{Kind}
use Rattle.ur_syntax.specs.declared.kind.Kind.TheVariants as kind
use Rattle.ur_syntax.specs.declared.con.FieldName.{FieldName}
use Rattle.ur_syntax.specs.declared.con.FieldName.TheVariants as field_name
use Rattle.ur_syntax.specs.declared.con.ConName.{ConName}
use Rattle.ur_syntax.specs.declared.con.ConForm.{ConForm, end_of-Con as ends, more_of-Con as holds, Row_of-CField, end_of-CField as no_more, more_of-CField as and_more, Row_of-RecordField, end_of-RecordField as last, more_of-RecordField as also}
use Rattle.ur_syntax.specs.declared.con.ConForm.TheVariants as con
use Rattle.ur_syntax.specs.declared.con.CField.{CField}
use Rattle.ur_syntax.specs.declared.con.CField.TheVariants as con_field
use Rattle.ur_syntax.specs.declared.con.ConMeaning.{ConMeaning}
use Rattle.ur_syntax.specs.declared.con.ConMeaning.TheVariants as meaning
use Rattle.ur_syntax.specs.declared.con.ConEntry.{ConEntry}
use Rattle.ur_syntax.specs.declared.con.ConEnv.{ConEnv}
use Rattle.ur_syntax.specs.Names.{own, member, same_con, looked_up, or_own, seen_by, seen}
use Rattle.ur_rows.specs.declared.normal.Var.{Var}
use Rattle.ur_rows.specs.declared.normal.Var.TheVariants as var
use Rattle.ur_rows.specs.declared.normal.Label.{Label}
use Rattle.ur_rows.specs.declared.normal.Label.TheVariants as label
use Rattle.ur_rows.specs.declared.normal.NormalType.{NormalType}
use Rattle.ur_rows.specs.declared.normal.NormalType.TheVariants as ty
use Rattle.ur_rows.specs.declared.normal.NormalType.TheBlock.{end_of-NormalType as alone, more_of-NormalType as its, Row_of-Part, end_of-Part as end, more_of-Part as more}
use Rattle.ur_rows.specs.declared.normal.Part.{Part}
use Rattle.ur_rows.specs.declared.normal.Part.TheVariants as part
use Rattle.ur_rows.specs.declared.normal.Normal.{Normal}
use Rattle.ur_rows.specs.declared.normal.Normal.TheVariants as normal
use Rattle.ur_rows.specs.declared.normal.Normal.TheBlock.{end_of-Normal as sole, more_of-Normal as the}
use Rattle.ur_rows.specs.Made.{option_of, list_of, transaction_of, arrow_of, field, mapped, parts, row, record_of, form_of, unit}
use Rattle.ur_rows.specs.Order.{stands_before, with_part, joined}
use Rattle.ur_rows.specs.IsNormal.{is_row, is_identity, is_normal_type, are_normal_parts, is_normal_part, all_normal_parts, is_normal_row, is_normal}
use Rattle.ur_rows.specs.Put.{as_type, as_label, as_row, Putting, put_label, put_type, put_parts, put_part, put_row, put, mapped_variable, renaming_but, renaming, raised_var, raising, raised_type, raised, at_fn, nearer, type_at, applied_type, composed, mapped_part, mapped_row, argument, applied_once, applied}
use Rattle.ur_rows.specs.Normal.{Known, or_raised, known_as, variable, within, with_argument, as_function, map_of, xml_of, word, word_with, name_with, label_of, nf_with, nf_fields, nf_field, nf_record, at_home, entry_form, variables_with, known_after, known_in, nf_form}
use Rattle.ur_rows.proofs.Order.{with_part-yes, with_part-no, with_part-row, parts-row, and-left, and-right, and-both}

-- ---- rows

with_part-all : (p : Part) (r : List Part) → is_normal_part p ≡ true → all_normal_parts r ≡ true → all_normal_parts (with_part p r) ≡ true
with_part-all p [] e f = and-both (is_normal_part p) true e refl
with_part-all p (q ∷ r) e f = step (cases_Bool (stands_before p q)) (with_part-all p r e (and-right (is_normal_part q) (all_normal_parts r) f)) where
  step : (stands_before p q ≡ true) ⊎ (stands_before p q ≡ false) → all_normal_parts (with_part p r) ≡ true → all_normal_parts (with_part p (q ∷ r)) ≡ true
  step (inl x) ih = ap all_normal_parts (with_part-yes p q r x) ∙ and-both (is_normal_part p) (all_normal_parts (q ∷ r)) e f
  step (inr x) ih = ap all_normal_parts (with_part-no p q r x) ∙
      and-both (is_normal_part q) (all_normal_parts (with_part p r)) (and-left (is_normal_part q) (all_normal_parts r) f) ih

pub with_part-normal : (p : Part) (r : List Part) → is_normal_part p ≡ true → is_normal_row r ≡ true → is_normal_row (with_part p r) ≡ true
with_part-normal p r e f = and-both (is_row (with_part p r)) (all_normal_parts (with_part p r))
    (with_part-row p r (and-left (is_row r) (all_normal_parts r) f)) (with_part-all p r e (and-right (is_row r) (all_normal_parts r) f))

pub joined-normal : (r s : List Part) → all_normal_parts r ≡ true → is_normal_row s ≡ true → is_normal_row (joined r s) ≡ true
joined-normal [] s e f = f
joined-normal (p ∷ r) s e f = with_part-normal p (joined r s) (and-left (is_normal_part p) (all_normal_parts r) e)
    (joined-normal r s (and-right (is_normal_part p) (all_normal_parts r) e) f)

row-all : (r : List Part) → are_normal_parts (row r).1 ≡ all_normal_parts r
row-all [] = refl
row-all (p ∷ r) = ap (λ x. is_normal_part p && x) (row-all r)

pub record-normal : (r : List Part) → is_normal_row r ≡ true → is_normal_type (record_of r) ≡ true
record-normal r e = ap₂ (λ x y. x && y) (ap is_row (parts-row r)) (row-all r) ∙ e

pub form-normal : (r : List Part) → is_normal_row r ≡ true → is_normal_type (form_of r) ≡ true
form-normal r e = ap₂ (λ x y. x && y) (ap is_row (parts-row r)) (row-all r) ∙ e

-- ---- substitution

pub record PutsNormal (σ : Putting) : Type 0 where
  pub types : (d : ℕ) (v : Var) → is_normal_type (σ.types d v) ≡ true
  pub rows : (d : ℕ) (v : Var) → all_normal_parts (σ.rows d v) ≡ true
  pub maps : (d : ℕ) (v : Var) (g : NormalType) → is_normal_type g ≡ true → all_normal_parts (σ.maps d v g) ≡ true

mutual
  pub put_type-normal : {σ : Putting} → PutsNormal σ → (d : ℕ) (t : NormalType) → is_normal_type (put_type σ d t) ≡ true
  put_type-normal k d (ty.Variable v) = k.types d v
  put_type-normal k d (ty.Opt' _ (its t alone)) = put_type-normal k d t
  put_type-normal k d (ty.Many' _ (its t alone)) = put_type-normal k d t
  put_type-normal k d (ty.Transaction' _ (its t alone)) = put_type-normal k d t
  put_type-normal {σ = σ} k d (ty.Arrow' _ (its a alone) _ (its b alone)) =
      and-both (is_normal_type (put_type σ d a)) (is_normal_type (put_type σ d b)) (put_type-normal k d a) (put_type-normal k d b)
  put_type-normal {σ = σ} k d (ty.Record' _ r) = record-normal (put_parts σ d r) (put_parts-normal k d r)
  put_type-normal {σ = σ} k d (ty.Form' _ r) = form-normal (put_parts σ d r) (put_parts-normal k d r)
  put_type-normal k d t = refl

  pub put_parts-normal : {σ : Putting} {n : _} → PutsNormal σ → (d : ℕ) (r : Row_of-Part n) → is_normal_row (put_parts σ d r) ≡ true
  put_parts-normal k d end = refl
  put_parts-normal {σ = σ} k d (more p r) = joined-normal (put_part σ d p) (put_parts σ d r) (put_part-normal k d p) (put_parts-normal k d r)

  pub put_part-normal : {σ : Putting} → PutsNormal σ → (d : ℕ) (p : Part) → all_normal_parts (put_part σ d p) ≡ true
  put_part-normal {σ = σ} k d (part.Field' l _ (its t alone)) = and-both (is_normal_type (put_type σ d t)) true (put_type-normal k d t) refl
  put_part-normal k d (part.Piece v) = k.rows d v
  put_part-normal {σ = σ} k d (part.Mapped' v _ (its f alone)) = k.maps d v (put_type σ (suc d) f) (put_type-normal k (suc d) f)

pub put_row-normal : {σ : Putting} → PutsNormal σ → (d : ℕ) (r : List Part) → is_normal_row (put_row σ d r) ≡ true
put_row-normal k d [] = refl
put_row-normal {σ = σ} k d (p ∷ r) = joined-normal (put_part σ d p) (put_row σ d r) (put_part-normal k d p) (put_row-normal k d r)

pub put-normal : {σ : Putting} → PutsNormal σ → (d : ℕ) (n : Normal) → is_normal (put σ d n) ≡ true
put-normal k d (normal.Type t) = put_type-normal k d t
put-normal k d (normal.Name l) = refl
put-normal k d (normal.Row r) = put_row-normal k d r
put-normal k d (normal.Fn' _ _ (the c sole)) = put-normal k (suc d) c

mapped_variable-normal : (g : NormalType) (v : Var) → is_normal_type g ≡ true → is_normal_part (mapped_variable g v) ≡ true
mapped_variable-normal (ty.Variable (var.Bound zero)) v e = refl
mapped_variable-normal g v e = e

one-normal : (p : Part) → is_normal_part p ≡ true → all_normal_parts (p ∷ []) ≡ true
one-normal p e = and-both (is_normal_part p) true e refl

renaming-normal : (f : ℕ → Var → Var) (ts : ℕ → Var → NormalType) → ((d : ℕ) (v : Var) → is_normal_type (ts d v) ≡ true) → PutsNormal (renaming_but f ts)
renaming-normal f ts h = record {
  types = h;
  rows = λ d v. refl;
  maps = λ d v g e. one-normal (mapped_variable g (f d v)) (mapped_variable-normal g (f d v) e);
}

pub raised_type-normal : (by : ℕ) (t : NormalType) → is_normal_type (raised_type by t) ≡ true
raised_type-normal by t = put_type-normal (renaming-normal (raised_var by) _ (λ d v. refl)) 0 t

pub raised-normal : (by : ℕ) (n : Normal) → is_normal (raised by n) ≡ true
raised-normal by n = put-normal (renaming-normal (raised_var by) _ (λ d v. refl)) 0 n

at_fn-all : {A : Type 0} (P : A → Bool) (by d : ℕ) (v : Var) (x : A) (f : Var → A) → P x ≡ true → ((w : Var) → P (f w) ≡ true) → P (at_fn by d v x f) ≡ true
at_fn-all P by d (var.Free n) x f e h = h (var.Free n)
at_fn-all P by d (var.Bound i) x f e h = go (cases_Bool (i == d)) where
  go : ((i == d) ≡ true) ⊎ ((i == d) ≡ false) → P (at_fn by d (var.Bound i) x f) ≡ true
  go (inl y) = ap (λ (b : Bool). P (if b then x else f (var.Bound (if nat_lt d i then i - by else i)))) y ∙ e
  go (inr y) = ap (λ (b : Bool). P (if b then x else f (var.Bound (if nat_lt d i then i - by else i)))) y ∙ h _

pub type_at-normal : (by : ℕ) (t : NormalType) → PutsNormal (type_at by t)
type_at-normal by t = renaming-normal (nearer by) (type_at by t).types
    (λ d v. at_fn-all is_normal_type by d v (raised_type d t) (λ w. ty.Variable w) (raised_type-normal d t) (λ w. refl))

pub applied_type-normal : (f t : NormalType) → is_normal_type (applied_type f t) ≡ true
applied_type-normal f t = put_type-normal (type_at-normal 1 t) 0 f

pub composed-normal : (f g : NormalType) → is_normal_type (composed f g) ≡ true
composed-normal f g = put_type-normal (type_at-normal 0 g) 0 f

mapped_part-normal : (f : NormalType) (p : Part) → is_normal_type f ≡ true → is_normal_part (mapped_part f p) ≡ true
mapped_part-normal f (part.Field' l _ (its t alone)) e = applied_type-normal f t
mapped_part-normal f (part.Piece v) e = mapped_variable-normal f v e
mapped_part-normal f (part.Mapped' v _ (its g alone)) e = mapped_variable-normal (composed f g) v (composed-normal f g)

pub mapped_row-normal : (f : NormalType) (r : List Part) → is_normal_type f ≡ true → is_normal_row (mapped_row f r) ≡ true
mapped_row-normal f [] e = refl
mapped_row-normal f (p ∷ r) e = with_part-normal (mapped_part f p) (mapped_row f r) (mapped_part-normal f p e) (mapped_row-normal f r e)

pub as_type-normal : (n : Normal) → is_normal n ≡ true → is_normal_type (as_type n) ≡ true
as_type-normal (normal.Type t) e = e
as_type-normal n e = refl

pub as_row-normal : (n : Normal) → is_normal n ≡ true → is_normal_row (as_row n) ≡ true
as_row-normal (normal.Row r) e = e
as_row-normal n e = refl

row-parts-all : (r : List Part) → is_normal_row r ≡ true → all_normal_parts r ≡ true
row-parts-all r e = and-right (is_row r) (all_normal_parts r) e

pub argument-normal : (a : Normal) → PutsNormal (argument a)
argument-normal a = record {
  types = λ d v. at_fn-all is_normal_type 1 d v (as_type (raised d a)) (λ w. ty.Variable w) (as_type-normal (raised d a) (raised-normal d a)) (λ w. refl);
  rows = λ d v. at_fn-all all_normal_parts 1 d v (as_row (raised d a)) (λ w. part.Piece w ∷ [])
      (row-parts-all (as_row (raised d a)) (as_row-normal (raised d a) (raised-normal d a))) (λ w. refl);
  maps = λ d v g e. row-parts-all (mapped_row g ((argument a).rows d v)) (mapped_row-normal g ((argument a).rows d v) e);
}

applied_once-normal : (f a : Normal) → is_normal (applied_once f a) ≡ true
applied_once-normal (normal.Fn' k _ (the c sole)) a = put-normal (argument-normal a) 0 c
applied_once-normal f a = refl

pub applied-normal : (f : Normal) (args : List Normal) → is_normal f ≡ true → is_normal (applied f args) ≡ true
applied-normal f [] e = e
applied-normal f (a ∷ args) e = applied-normal (applied_once f a) args (applied_once-normal f a)

-- ---- the normal form

abbrev pub all_normal : List Normal → Bool
all_normal [] = true
all_normal (n ∷ ns) = is_normal n && all_normal ns

abbrev pub or_normal : Option Normal → Bool
or_normal None = true
or_normal (Some n) = is_normal n

or_raised-normal : (d : ℕ) (o : Option (ℕ × Normal)) → or_normal (or_raised d o) ≡ true
or_raised-normal d None = refl
or_raised-normal d (Some e) = raised-normal (d - e.0) e.1

pub known_as-normal : (x : ConName) (known : Known) → or_normal (known_as x known) ≡ true
known_as-normal x known = or_raised-normal known.depth (seen known.home x known.names)

variable-normal : (k : Kind) (v : Var) → is_normal (variable k v) ≡ true
variable-normal kind.Star v = refl
variable-normal kind.Name v = refl
variable-normal kind.Row v = refl
variable-normal (kind.Arrow' _ x _ y) v = refl

pub as_function-normal : (n : Normal) → is_normal n ≡ true → is_normal_type (as_function n) ≡ true
as_function-normal (normal.Fn' k _ (the c sole)) e = as_type-normal c e
as_function-normal n e = refl

map_of-normal : (args : List Normal) → all_normal args ≡ true → is_normal (map_of args) ≡ true
map_of-normal (f ∷ r ∷ []) e = mapped_row-normal (as_function f) (as_row r) (as_function-normal f (and-left (is_normal f) (all_normal (r ∷ [])) e))
map_of-normal args e = refl

xml_of-normal : (args : List Normal) → all_normal args ≡ true → is_normal (xml_of args) ≡ true
xml_of-normal (x ∷ y ∷ r ∷ []) e = form-normal (as_row r) (as_row-normal r (and-left (is_normal r) true
    (and-right (is_normal y) (all_normal (r ∷ [])) (and-right (is_normal x) (all_normal (y ∷ r ∷ [])) e))))
xml_of-normal args e = refl

if-normal : (b : Bool) (x y : Normal) → is_normal x ≡ true → is_normal y ≡ true → is_normal (if b then x else y) ≡ true
if-normal true x y e f = e
if-normal false x y e f = f

word-normal : (x : List ℕ) → is_normal (word x) ≡ true
word-normal x =
    if-normal (bytes_eq x (codes "int")) _ _ refl (if-normal (bytes_eq x (codes "string")) _ _ refl (if-normal (bytes_eq x (codes "bool")) _ _ refl
    (if-normal (bytes_eq x (codes "unit")) _ _ refl (if-normal (bytes_eq x (codes "page")) _ _ refl (if-normal (bytes_eq x (codes "xbody")) _ _ refl (if-normal (bytes_eq x (codes "xtable")) _ _ refl
    (if-normal (bytes_eq x (codes "xtr")) _ _ refl (if-normal (bytes_eq x (codes "xform")) _ _ refl (if-normal (bytes_eq x (codes "option")) _ _ refl
    (if-normal (bytes_eq x (codes "list")) _ _ refl (if-normal (bytes_eq x (codes "transaction")) _ _ refl refl)))))))))))

word_with-normal : (x : List ℕ) (args : List Normal) → all_normal args ≡ true → is_normal (word_with x args) ≡ true
word_with-normal x args e = if-normal (bytes_eq x (codes "map")) _ _ (map_of-normal args e)
    (if-normal (bytes_eq x (codes "xml")) _ _ (xml_of-normal args e) (applied-normal (word x) args (word-normal x)))

name_with-normal : (o : Option Normal) (x : List ℕ) (args : List Normal) → or_normal o ≡ true → all_normal args ≡ true → is_normal (name_with o x args) ≡ true
name_with-normal (Some n) x args e f = applied-normal n args e
name_with-normal None x args e f = word_with-normal x args f

mutual
  pub nf_with-normal : (known : Known) (c : ConForm) (args : List Normal) → all_normal args ≡ true → is_normal (nf_with known c args) ≡ true
  nf_with-normal known (con.Lambda' x k _ (holds p c ends)) [] f = nf_with-normal (within x k known) c [] refl
  nf_with-normal known (con.Lambda' x k _ (holds p c ends)) (a ∷ args) f = nf_with-normal (with_argument x a known) c args (and-right (is_normal a) (all_normal args) f)
  nf_with-normal known (con.Arrow' _ (holds p a ends) _ (holds q b ends)) args f =
      and-both (is_normal_type (as_type (nf_with known a []))) (is_normal_type (as_type (nf_with known b [])))
      (as_type-normal (nf_with known a []) (nf_with-normal known a [] refl)) (as_type-normal (nf_with known b []) (nf_with-normal known b [] refl))
  nf_with-normal known (con.Concat' _ (holds p a ends) _ (holds q b ends)) args f =
      joined-normal (as_row (nf_with known a [])) (as_row (nf_with known b [])) (row-parts-all (as_row (nf_with known a [])) (as_row-normal (nf_with known a []) (nf_with-normal known a [] refl)))
      (as_row-normal (nf_with known b []) (nf_with-normal known b [] refl))
  nf_with-normal known (con.App' _ (holds p g ends) _ (holds q a ends)) args f =
      nf_with-normal known g (nf_with known a [] ∷ args) (and-both (is_normal (nf_with known a [])) (all_normal args) (nf_with-normal known a [] refl) f)
  nf_with-normal known (con.Var x) args f = name_with-normal (known_as (own x) known) x args (known_as-normal (own x) known) f
  nf_with-normal known (con.Member m x) args f = name_with-normal (known_as (member m x) known) x args (known_as-normal (member m x) known) f
  nf_with-normal known (con.Name a) args f = refl
  nf_with-normal known (con.Row' _ fields) args f = nf_fields-normal known fields
  nf_with-normal known (con.Record' _ fields) args f = record-normal (nf_record known fields) (nf_record-normal known fields)
  nf_with-normal known (con.RecordOf' _ (holds p c ends)) args f =
      record-normal (as_row (nf_with known c [])) (as_row-normal (nf_with known c []) (nf_with-normal known c [] refl))

  pub nf_fields-normal : {n : _} (known : Known) (r : Row_of-CField n) → is_normal_row (nf_fields known r) ≡ true
  nf_fields-normal known no_more = refl
  nf_fields-normal known (and_more x r) = with_part-normal (nf_field known x) (nf_fields known r) (nf_field-normal known x) (nf_fields-normal known r)

  pub nf_field-normal : (known : Known) (x : CField) → is_normal_part (nf_field known x) ≡ true
  nf_field-normal known (con_field.Bare x) = refl
  nf_field-normal known (con_field.Given' x p c) = as_type-normal (nf_with known c []) (nf_with-normal known c [] refl)

  pub nf_record-normal : {n : _} (known : Known) (r : Row_of-RecordField n) → is_normal_row (nf_record known r) ≡ true
  nf_record-normal known last = refl
  nf_record-normal known (also x p c r) = with_part-normal (field (label_of known x) (as_type (nf_with known c []))) (nf_record known r)
      (as_type-normal (nf_with known c []) (nf_with-normal known c [] refl)) (nf_record-normal known r)

pub nf-normal : (env : ConEnv) (c : ConForm) → is_normal (nf_form env c) ≡ true
nf-normal env c = nf_with-normal (known_in env) c [] refl
