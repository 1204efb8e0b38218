-- Where a part does not fit, the whole has no kind, and where a part has an unknown name, the whole has one.
use Rattle.std.proofs.Common.{◌≡◌, refl, ap, ap₂, sym, ◌∙◌, ℕ, Bool, true, false, ◌&&◌, ◌||◌, if◌then◌else◌, List, codes, Option, Some, None, true≢false}
use mathlib.Core.Former.{Count}
use Rattle.ur_base.specs.declared.refusal.Refusal.{Refusal}
use Rattle.ur_syntax.specs.declared.kind.Kind.{Kind}
use Rattle.ur_syntax.specs.declared.kind.Kind.TheVariants as kind
use Rattle.ur_syntax.specs.declared.kind.Kind.TheBlock.{end_of-Kind as nought, more_of-Kind as some}
use Rattle.ur_syntax.specs.declared.con.FieldName.{FieldName}
use Rattle.ur_syntax.specs.declared.con.ConForm.{ConForm, Row_of-CField, Row_of-RecordField}
use Rattle.ur_syntax.specs.declared.con.ConForm.TheVariants as con
use Rattle.ur_syntax.specs.declared.con.CField.{CField}
use Rattle.ur_syntax.specs.Kinds.{arrow, is_plain}
use Rattle.ur_syntax.specs.Names.{name_text}
use Rattle.ur_syntax.specs.Forms.{apply_con}
use Rattle.ur_syntax.specs.HasKind.{Scope, with_name, HasKind}
use Rattle.ur_kinds.specs.Unknown.{first, unless_kinded, own_kind, unknown_label, unknown_in, unknown_in_mapped, unknown_in_fields, unknown_in_field, unknown_in_record}
use Rattle.ur_kinds.specs.Words.{is_map, is_form}
use Rattle.ur_kinds.specs.Faults.{FieldPart, field_type, given_name, bare_name, RecordFieldPart, record_field_type, record_field_name, RowPart, here, later, RecordPart, here_too, later_too, Part, body, from, to, left, right, head, argument, given, mapped, mapped_row, form_row, dollar, in_row, in_record, StandsIn, itself, within, Fault, Breaks, no_name, no_member, misplaced, no_function, no_variable, TellsKind, HasFault}
use Rattle.ur_kinds.proofs.Infer.{kinds_eq, if_star, if_row, if_name, if_maker, when, to_body, given_to, applied_to, label_fits, infer, infer_mapped, infer_fields, infer_field, infer_record, and-left, and-right, taken, left-out, no-form, no-map, infer-applied, map-is, kinded, some-same}

no : {A : Type 0} → false ≡ true → A
no e = absurd (true≢false (sym e))

no-kind : {A : Type 0} {k : Kind} → None ≡ Some k → A
no-kind e = absurd (cc)

no-name : {A B : Type 0} {a : A} → Some a ≡ None → B
no-name e = absurd (cc)

star-is : (o : Option Kind) → if_star o ≡ true → o ≡ Some kind.Star
star-is (Some kind.Star) e = refl
star-is _ e = no e

row-is : (o : Option Kind) → if_row o ≡ true → o ≡ Some kind.Row
row-is (Some kind.Row) e = refl
row-is _ e = no e

name-is : (o : Option Kind) → if_name o ≡ true → o ≡ Some kind.Name
name-is (Some kind.Name) e = refl
name-is _ e = no e

kinds-same : (k j : Kind) → kinds_eq k j ≡ true → k ≡ j
kinds-same kind.Star kind.Star e = refl
kinds-same kind.Name kind.Name e = refl
kinds-same kind.Row kind.Row e = refl
kinds-same (kind.Arrow' _ (some k nought) _ (some j nought)) (kind.Arrow' _ (some l nought) _ (some m nought)) e =
    ap₂ arrow (kinds-same k l (and-left (kinds_eq k l) (kinds_eq j m) e)) (kinds-same j m (and-right (kinds_eq k l) (kinds_eq j m) e))
kinds-same _ _ e = no e

maker-is : (o : Option Kind) → if_maker o ≡ true → o ≡ Some (arrow kind.Star kind.Star)
maker-is (Some k) e = ap (λ j. Some j) (kinds-same k (arrow kind.Star kind.Star) e)
maker-is None e = no e

when-true : (b : Bool) (k j : Kind) → when b k ≡ Some j → b ≡ true
when-true true k j e = refl
when-true false k j e = no-kind e

-- the kind that is wanted, or some kind
abbrev Fits : Option Kind → Option Kind → Type 0
Fits None o = (j : Kind) × (o ≡ Some j)
Fits (Some v) o = o ≡ Some v

body-has : (k : Kind) (o : Option Kind) (j : Kind) → to_body k o ≡ Some j → (i : Kind) × (o ≡ Some i)
body-has k (Some i) j e = (i, refl)
body-has k None j e = no-kind e

head-has : (h o : Option Kind) (j : Kind) → applied_to h o ≡ Some j → (i : Kind) × (h ≡ Some i)
head-has (Some i) o j e = (i, refl)
head-has None o j e = no-kind e

given-none : (k j : Kind) → given_to k None ≡ Some j → ⊥
given-none kind.Star j e = no-kind e
given-none kind.Name j e = no-kind e
given-none kind.Row j e = no-kind e
given-none (kind.Arrow' _ (some k nought) _ (some i nought)) j e = no-kind e

argument-has : (f m b : Bool) (h o : Option Kind) (k : Kind) →
    (if f then when (if_row o) kind.Star else if m then when (b && if_row o) kind.Row else applied_to h o) ≡ Some k → (j : Kind) × (o ≡ Some j)
argument-has f m b h (Some j) k e = (j, refl)
argument-has true m b h None k e = no-kind e
argument-has false true true h None k e = no-kind e
argument-has false true false h None k e = no-kind e
argument-has false false b None None k e = no-kind e
argument-has false false b (Some i) None k e = absurd (given-none i k e)

row-wanted : (f m b : Bool) (h o : Option Kind) (k : Kind) → (f || m) ≡ true →
    (if f then when (if_row o) kind.Star else if m then when (b && if_row o) kind.Row else applied_to h o) ≡ Some k → if_row o ≡ true
row-wanted true m b h o k t e = when-true (if_row o) kind.Star k e
row-wanted false true b h o k t e = and-right b (if_row o) (when-true (b && if_row o) kind.Row k e)
row-wanted false false b h o k t e = no t

or-right : (a b : Bool) → b ≡ true → (a || b) ≡ true
or-right true b e = refl
or-right false b e = e

given-is : (k j i : Kind) (o : Option Kind) → given_to (arrow k j) o ≡ Some i → o ≡ Some k
given-is k j i (Some l) e = ap (λ z. Some z) (sym (kinds-same k l (when-true (kinds_eq k l) j i e)))
given-is k j i None e = no-kind e

field-fits : (s : Scope) {f : CField} {c : ConForm} {k : Kind} → FieldPart f c k → infer_field s f ≡ true → infer s c ≡ Some k
field-fits s (field_type {x = x} {c = c}) e = star-is (infer s c) (and-right (label_fits s x) (if_star (infer s c)) e)
field-fits s (given_name {x = x} {c = c}) e = name-is (own_kind s x) (and-left (if_name (own_kind s x)) (if_star (infer s c)) e)
field-fits s (bare_name {x = x}) e = name-is (own_kind s x) e

record-field-fits : (s : Scope) {x : FieldName} {c d : ConForm} {k : Kind} → RecordFieldPart x c d k → (label_fits s x && if_star (infer s c)) ≡ true → infer s d ≡ Some k
record-field-fits s (record_field_type {x = x} {c = c}) e = star-is (infer s c) (and-right (label_fits s x) (if_star (infer s c)) e)
record-field-fits s (record_field_name {x = x} {c = c}) e = name-is (own_kind s x) (and-left (if_name (own_kind s x)) (if_star (infer s c)) e)

row-fits : (s : Scope) {n : Count} {fields : Row_of-CField n} {c : ConForm} {k : Kind} → RowPart n fields c k → infer_fields s fields ≡ true → infer s c ≡ Some k
row-fits s (here {rest = rest} {f = f} p) e = field-fits s p (and-left (infer_field s f) (infer_fields s rest) e)
row-fits s (later {rest = rest} {f = f} p) e = row-fits s p (and-right (infer_field s f) (infer_fields s rest) e)

record-fits : (s : Scope) {n : Count} {fields : Row_of-RecordField n} {c : ConForm} {k : Kind} → RecordPart n fields c k → infer_record s fields ≡ true → infer s c ≡ Some k
record-fits s (here_too {rest = rest} {x = x} {c = c} p) e = record-field-fits s p (and-left (label_fits s x && if_star (infer s c)) (infer_record s rest) e)
record-fits s (later_too {rest = rest} {x = x} {c = c} p) e = record-fits s p (and-right (label_fits s x && if_star (infer s c)) (infer_record s rest) e)

part-kind : {s t : Scope} {c d : ConForm} {w : Option Kind} → Part s c t d w → (k : Kind) → infer s c ≡ Some k → Fits w (infer t d)
part-kind (body {s = s} {x = x} {k = j} {c = c}) k e = body-has j (infer (with_name x j s) c) k e
part-kind (from {s = s} {a = a} {b = b}) k e = star-is (infer s a) (and-left (if_star (infer s a)) (if_star (infer s b)) (when-true (if_star (infer s a) && if_star (infer s b)) kind.Star k e))
part-kind (to {s = s} {a = a} {b = b}) k e = star-is (infer s b) (and-right (if_star (infer s a)) (if_star (infer s b)) (when-true (if_star (infer s a) && if_star (infer s b)) kind.Star k e))
part-kind (left {s = s} {a = a} {b = b}) k e = row-is (infer s a) (and-left (if_row (infer s a)) (if_row (infer s b)) (when-true (if_row (infer s a) && if_row (infer s b)) kind.Row k e))
part-kind (right {s = s} {a = a} {b = b}) k e = row-is (infer s b) (and-right (if_row (infer s a)) (if_row (infer s b)) (when-true (if_row (infer s a) && if_row (infer s b)) kind.Row k e))
part-kind (head {s = s} {p = p} {q = q} {f = f} {a = a} n m) k e = head-has (infer s f) (infer s a) k (sym (infer-applied s p q f a n m) ∙ e)
part-kind (argument {s = s} {f = f} {a = a}) k e = argument-has (is_form s f) (is_map s f) (if_maker (infer_mapped s f)) (infer s f) (infer s a) k e
part-kind (given {s = s} {p = p} {q = q} {f = f} {a = a} {k = i} {j = j} h) k e =
    given-is i j k (infer s a) (ap (λ o. applied_to o (infer s a)) (sym (kinded h)) ∙ (sym (infer-applied s p q f a (no-form s f (arrow i j) (kinded h)) (no-map s f (arrow i j) (kinded h))) ∙ e))
part-kind (mapped {s = s} {o = o} {q = q} {f = f} {r = r} w) k e = maker-is (infer s f) (and-left (if_maker (infer s f)) (if_row (infer s r))
    (when-true (if_maker (infer s f) && if_row (infer s r)) kind.Row k (sym (taken (is_map s (apply_con o (con.Var (codes "map")) q f)) _ _ (map-is s o q f w)) ∙ e)))
part-kind (mapped_row {s = s} {f = f} {r = r} m) k e =
    row-is (infer s r) (row-wanted (is_form s f) (is_map s f) (if_maker (infer_mapped s f)) (infer s f) (infer s r) k (or-right (is_form s f) (is_map s f) m) e)
part-kind (form_row {s = s} {f = f} {r = r} m) k e =
    row-is (infer s r) (row-wanted (is_form s f) (is_map s f) (if_maker (infer_mapped s f)) (infer s f) (infer s r) k (ap (λ b. b || is_map s f) m) e)
part-kind (dollar {s = s} {r = r}) k e = row-is (infer s r) (when-true (if_row (infer s r)) kind.Star k e)
part-kind (in_row {s = s} {fields = fields} p) k e = row-fits s p (when-true (infer_fields s fields) kind.Row k e)
part-kind (in_record {s = s} {fields = fields} p) k e = record-fits s p (when-true (infer_record s fields) kind.Star k e)

some-kind : (w o : Option Kind) → Fits w o → (j : Kind) × (o ≡ Some j)
some-kind None o f = f
some-kind (Some v) o f = (v, f)

stands-kind : {s t : Scope} {c d : ConForm} → StandsIn s c t d → (k : Kind) → infer s c ≡ Some k → (j : Kind) × (infer t d ≡ Some j)
stands-kind itself k e = (k, e)
stands-kind (within {t = t} {d = d} {k = w} p h) k e = let j = some-kind w (infer t d) (part-kind p k e) in stands-kind h j.0 j.1

plain-gives : (k j : Kind) (o : Option Kind) → is_plain k ≡ true → given_to k o ≡ Some j → ⊥
plain-gives kind.Star j o p e = no-kind e
plain-gives kind.Name j o p e = no-kind e
plain-gives kind.Row j o p e = no-kind e
plain-gives (kind.Arrow' _ (some k nought) _ (some i nought)) j o p e = no p

body-plain : (k j : Kind) (o : Option Kind) → is_plain k ≡ false → to_body k o ≡ Some j → ⊥
body-plain k j (Some i) p e = no (sym p ∙ when-true (is_plain k) (arrow k i) j e)
body-plain k j None p e = no-kind e

breaks-none : {s : Scope} {c : ConForm} {f : Fault} → Breaks s c f → (k : Kind) → infer s c ≡ Some k → ⊥
breaks-none (no_name e) k h = no-kind (sym e ∙ h)
breaks-none (no_member e) k h = no-kind (sym e ∙ h)
breaks-none (misplaced {found = found} {wanted = wanted} p h n) k e = n (some-same found wanted (sym (kinded h) ∙ part-kind p k e))
breaks-none (no_function {s = s} {p = p} {q = q} {f = f} {a = a} {found = found} h i j) k e =
    plain-gives found k (infer s a) i (ap (λ o. applied_to o (infer s a)) (sym (kinded h)) ∙ (sym (infer-applied s p q f a (no-form s f found (kinded h)) (no-map s f found (kinded h))) ∙ e))
breaks-none (no_variable {s = s} {x = x} {k = j} {c = c} p) k e = body-plain j k (infer (with_name x j s) c) p e

pub faulty-none : {s : Scope} {c : ConForm} {r : Refusal} → HasFault s c r → (k : Kind) → HasKind s c k → ⊥
faulty-none f k h = go (stands-kind f.stands k (kinded h)) where
  go : (j : Kind) × (infer f.scope f.place ≡ Some j) → ⊥
  go j = breaks-none f.broken j.0 j.1

-- ---- unknown names

first-left : {A : Type 0} (a b : Option A) → first a b ≡ None → a ≡ None
first-left None b e = refl
first-left (Some a) b e = e

first-right : {A : Type 0} (a b : Option A) → first a b ≡ None → b ≡ None
first-right None b e = e
first-right (Some a) b e = no-name e

field-known : (s : Scope) {f : CField} {c : ConForm} {k : Kind} → FieldPart f c k → unknown_in_field s f ≡ None → unknown_in s c ≡ None
field-known s (field_type {x = x} {c = c}) e = first-right (unknown_label s x) (unknown_in s c) e
field-known s (given_name {x = x} {c = c}) e = first-left (unknown_in s (con.Var x)) (unknown_in s c) e
field-known s bare_name e = e

record-field-known : (s : Scope) {x : FieldName} {c d : ConForm} {k : Kind} → RecordFieldPart x c d k → first (unknown_label s x) (unknown_in s c) ≡ None → unknown_in s d ≡ None
record-field-known s (record_field_type {x = x} {c = c}) e = first-right (unknown_label s x) (unknown_in s c) e
record-field-known s (record_field_name {x = x} {c = c}) e = first-left (unknown_in s (con.Var x)) (unknown_in s c) e

row-known : (s : Scope) {n : Count} {fields : Row_of-CField n} {c : ConForm} {k : Kind} → RowPart n fields c k → unknown_in_fields s fields ≡ None → unknown_in s c ≡ None
row-known s (here {rest = rest} {f = f} p) e = field-known s p (first-left (unknown_in_field s f) (unknown_in_fields s rest) e)
row-known s (later {rest = rest} {f = f} p) e = row-known s p (first-right (unknown_in_field s f) (unknown_in_fields s rest) e)

record-known : (s : Scope) {n : Count} {fields : Row_of-RecordField n} {c : ConForm} {k : Kind} → RecordPart n fields c k → unknown_in_record s fields ≡ None → unknown_in s c ≡ None
record-known s (here_too {rest = rest} {x = x} {c = c} p) e = record-field-known s p (first-left (first (unknown_label s x) (unknown_in s c)) (unknown_in_record s rest) e)
record-known s (later_too {rest = rest} {x = x} {c = c} p) e = record-known s p (first-right (first (unknown_label s x) (unknown_in s c)) (unknown_in_record s rest) e)

-- the unknown names of what is applied
abbrev in_head : Scope → ConForm → Option (List ℕ)
in_head s f = if is_form s f then None else if is_map s f then unknown_in_mapped s f else unknown_in s f

part-known : {s t : Scope} {c d : ConForm} {w : Option Kind} → Part s c t d w → unknown_in s c ≡ None → unknown_in t d ≡ None
part-known body e = e
part-known (from {s = s} {a = a} {b = b}) e = first-left (unknown_in s a) (unknown_in s b) e
part-known (to {s = s} {a = a} {b = b}) e = first-right (unknown_in s a) (unknown_in s b) e
part-known (left {s = s} {a = a} {b = b}) e = first-left (unknown_in s a) (unknown_in s b) e
part-known (right {s = s} {a = a} {b = b}) e = first-right (unknown_in s a) (unknown_in s b) e
part-known (head {s = s} {f = f} {a = a} n m) e = sym (left-out (is_form s f) _ _ n ∙ left-out (is_map s f) _ _ m) ∙ first-left (in_head s f) (unknown_in s a) e
part-known (argument {s = s} {f = f} {a = a}) e = first-right (in_head s f) (unknown_in s a) e
part-known (given {s = s} {f = f} {a = a} h) e = first-right (in_head s f) (unknown_in s a) e
part-known (mapped {s = s} {o = o} {q = q} {f = f} {r = r} w) e =
    sym (taken (is_map s (apply_con o (con.Var (codes "map")) q f)) _ _ (map-is s o q f w)) ∙ first-left (in_head s (apply_con o (con.Var (codes "map")) q f)) (unknown_in s r) e
part-known (mapped_row {s = s} {f = f} {r = r} m) e = first-right (in_head s f) (unknown_in s r) e
part-known (form_row {s = s} {f = f} {r = r} m) e = first-right (in_head s f) (unknown_in s r) e
part-known dollar e = e
part-known (in_row {s = s} p) e = row-known s p e
part-known (in_record {s = s} p) e = record-known s p e

stands-known : {s t : Scope} {c d : ConForm} → StandsIn s c t d → unknown_in s c ≡ None → unknown_in t d ≡ None
stands-known itself e = e
stands-known (within p h) e = stands-known h (part-known p e)

breaks-known : {s : Scope} {c : ConForm} {f : Fault} (r : Refusal) → Breaks s c f → unknown_in s c ≡ None → TellsKind r f → r.code ≡ 9
breaks-known r (no_name {x = x} e) h t = no-name (ap (λ o. unless_kinded o x) (sym e) ∙ h)
breaks-known r (no_member {m = m} {x = x} e) h t = no-name (ap (λ o. unless_kinded o (name_text (Some m) x)) (sym e) ∙ h)
breaks-known r (misplaced p h n) e t = t.0
breaks-known r (no_function h i j) e t = t.0
breaks-known r (no_variable p) e t = t.0

pub fault-known : {s : Scope} {c : ConForm} {r : Refusal} → HasFault s c r → unknown_in s c ≡ None → r.code ≡ 9
fault-known {r = r} f e = breaks-known r f.broken (stands-known f.stands e) f.told
