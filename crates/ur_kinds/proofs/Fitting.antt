-- The steps of the walk over kinds.
use Rattle.std.proofs.Common.{◌≡◌, refl, ap, ap₂, sym, ◌∙◌, subst, ℕ, suc, zero, ◌+◌, ◌<◌, ◌≤◌, arith, true, false, ◌⊎◌, inl, inr, List, [], ◌∷◌, length, drop, get_or, codes, Option, Some, None, Result, Ok, Err, OnOk, IfOk, true≢false}
use Rattle.std.specs.Result.{IsErrAnd}
use Rattle.std.proofs.lemmas.Bool.{cases_Bool}
use Rattle.std.proofs.Math.Seq.{drop-length}
use Rattle.ur_base.specs.Stopping.{IfRefused}
use Rattle.ur_base.specs.declared.refusal.Span.{Span}
use Rattle.ur_base.specs.declared.refusal.Refusal.{Refusal}
use Rattle.ur_base.specs.declared.refusal.Stop.{Stop}
use Rattle.ur_base.specs.declared.refusal.Stop.TheVariants as stop
use Rattle.ur_syntax.specs.declared.kind.Kind.{Kind}
use Rattle.ur_syntax.specs.declared.kind.Kind.TheVariants as kind
use Rattle.ur_syntax.specs.declared.con.FieldName.{FieldName}
use Rattle.ur_syntax.specs.declared.con.FieldName.TheVariants as field_name
use Rattle.ur_syntax.specs.declared.con.Con.{Con}
use Rattle.ur_syntax.specs.declared.con.ConForm.{ConForm, end_of-Con as alone, more_of-Con as its, end_of-CField as end}
use Rattle.ur_syntax.specs.declared.con.ConForm.TheVariants as con
use Rattle.ur_syntax.specs.declared.con.CField.{CField}
use Rattle.ur_syntax.specs.declared.con.CField.TheVariants as con_field
use Rattle.ur_syntax.specs.declared.con.RecordField.{RecordField}
use Rattle.ur_syntax.specs.Kinds.{arrow, is_plain}
use Rattle.ur_syntax.specs.Names.{own}
use Rattle.ur_syntax.specs.Forms.{fn_con, apply_con, map_con, form_con}
use Rattle.ur_syntax.specs.HasKind.{Scope, with_name, kind_known, word_kind, IsWord, HasKind, HaveKinds, RecordHasKinds, IsName, function, applied, map_row, form, row as row_kind, record_type, none, bare, given as given_field, no_field, a_field, variable}
use Rattle.ur_kinds.specs.declared.walk.Head.{Head}
use Rattle.ur_kinds.specs.declared.walk.Head.TheVariants as heads
use Rattle.ur_kinds.specs.Unknown.{first, unknown_in}
use Rattle.ur_kinds.specs.Kindless.{Told, HasNoKind, HasNotKind}
use Rattle.ur_kinds.proofs.Parts.{faulty-none, fault-known}
use Rattle.ur_kinds.specs.Words.{is_word, is_map, is_xml_form, is_form, is_empty_row}
use Rattle.ur_kinds.specs.Walk.{NamesTold, is_type_word, is_maker_word, IsOther, HeadFits, HeadFault, MapFits, FieldKinded, FieldFault, RecordFieldKinded, RecordFieldFault, LabelFault}
use Rattle.ur_kinds.specs.Faults.{FieldPart, field_type, given_name, bare_name, RecordFieldPart, record_field_type, record_field_name, RowPart, here, later, RecordPart, here_too, later_too, Part, head, argument, given, mapped, mapped_row, form_row, in_row, in_record, bad_kind, no_function, TellsKind, HasFault, Misfits, faulty, other_kind}
use Rattle.ur_kinds.proofs.Infer.{one-kind, kinded-known, and-left, and-right, map-is, kinded, word-spelt, word-hidden}
use Rattle.ur_syntax.proofs.Shapes.{row, record_row, apply-made, fields-made, record-made, kind-arrow}
use Rattle.ur_kinds.proofs.Walking.{fault-here, fault-within, misfit-within, type-word, maker-word, no-word, next-drop, meet}

no : {A : Type 0} → false ≡ true → A
no e = absurd (true≢false (sym e))

-- ---- answers passed on

pub refused-exit : {B : Type 0} (r : Result B Stop) (e : Stop) {P Q : Refusal → Type 0} → IsErrAnd r (λ y. y ≡ e) → ((x : Refusal) → P x → Q x) → IfRefused {A = Unit {0}} (Err e) P → IfRefused r Q
refused-exit (Ok b) e i f h = absurd i
refused-exit (Err (stop.Refused x)) e {P = P} i f h = f x (subst (λ z. IfRefused {A = Unit {0}} (Err z) P) (sym i) h)
refused-exit (Err stop.Memory) e i f h = tt

pub refused-along : {A : Type 0} (r : Result A Stop) {P Q : Refusal → Type 0} → ((x : Refusal) → P x → Q x) → IfRefused r P → IfRefused r Q
refused-along (Ok b) f h = tt
refused-along (Err (stop.Refused x)) f h = f x h
refused-along (Err stop.Memory) f h = tt

pub ok-along : {A E : Type 0} (r : Result A E) {P Q : A → Type 0} → ((x : A) → P x → Q x) → IfOk r P → IfOk r Q
ok-along (Ok b) f h = f b h
ok-along (Err e) f h = h

-- ---- parts

pub lift-misfit : {s t : Scope} {c d : ConForm} (b : ConForm) {w : Kind} → c ≡ b → Part s b t d (Some w) → (x : Refusal) → Misfits t d w x → HasFault s c x
lift-misfit {s = s} b e p x m = subst (λ z. HasFault s z x) (sym e) (misfit-within p m)

pub lift-fault : {s t : Scope} {c d : ConForm} (b : ConForm) {w : Option Kind} → c ≡ b → Part s b t d w → (x : Refusal) → HasFault t d x → HasFault s c x
lift-fault {s = s} b e p x m = subst (λ z. HasFault s z x) (sym e) (fault-within p m)

pub lift-kind : {s : Scope} {c : ConForm} (b : ConForm) {k : Kind} → c ≡ b → HasKind s b k → HasKind s c k
lift-kind {s = s} b {k = k} e h = subst (λ z. HasKind s z k) (sym e) h

pub kind-at : {s : Scope} {c : ConForm} {k : Kind} (j : Kind) → k ≡ j → HasKind s c j → HasKind s c k
kind-at {s = s} {c = c} j e h = subst (λ z. HasKind s c z) (sym e) h

pub as-misfit : {s : Scope} {c : ConForm} {w : Kind} (x : Refusal) → HasFault s c x → Misfits s c w x
as-misfit x f = faulty f

pub as-other : {s : Scope} {c : ConForm} {k : Kind} {w : Kind} → HasKind s c k → (x : Refusal) → IsOther k w x → Misfits s c w x
as-other h x o = other_kind h o.0 o.1

-- ---- functions

pub fn-kind : {s : Scope} {x : List ℕ} {k j : Kind} {p : Span} {c : ConForm} (a m : Kind) → is_plain k ≡ true → a ≡ arrow m j → m ≡ k → HasKind (with_name x k s) c j → HasKind s (fn_con x k p c) a
fn-kind {k = k} {j = j} a m p e f h = kind-at (arrow k j) (e ∙ ap (λ z. arrow z j) f) (function p h)

-- ---- heads

map-fits : {s : Scope} {f : ConForm} → MapFits s f → is_map s f ≡ true
map-fits {s = s} m = ap (is_map s) m.is ∙ map-is s m.of m.at m.function m.word

pub map-argument : {s : Scope} {h : Head} (a : Con) → h ≡ heads.Map → (r : Refusal) → Misfits s a.form kind.Row r → (p : Span) (f : ConForm) → HeadFits s f h → HasFault s (apply_con p f a.span a.form) r
map-argument {s = s} a e r m p f h = misfit-within (mapped_row (map-fits {s = s} {f = f} (subst (λ z. HeadFits s f z) e h))) m

pub form-argument : {s : Scope} {h : Head} (a : Con) → h ≡ heads.Form → (r : Refusal) → Misfits s a.form kind.Row r → (p : Span) (f : ConForm) → HeadFits s f h → HasFault s (apply_con p f a.span a.form) r
form-argument {s = s} a e r m p f h = misfit-within (form_row (subst (λ z. HeadFits s f z) e h)) m

pub map-kind : {s : Scope} {h : Head} (a : Con) → h ≡ heads.Map → HasKind s a.form kind.Row → (p : Span) (f : ConForm) → HeadFits s f h → HasKind s (apply_con p f a.span a.form) kind.Row
map-kind {s = s} a e k p f h = go (subst (λ z. HeadFits s f z) e h) where
  go : MapFits s f → HasKind s (apply_con p f a.span a.form) kind.Row
  go m = lift-kind (map_con p m.of m.at m.function a.span a.form) (ap (λ z. apply_con p z a.span a.form) m.is) (map_row m.word m.kind_is k)

row-shape : (e : ConForm) → is_empty_row e ≡ true → e ≡ con.Row' [] end
row-shape (con.Row' [] end) t = refl
row-shape _ t = no t

word-shape : (w : List ℕ) (s : Scope) (c : ConForm) → is_word w s c ≡ true → (c ≡ con.Var w) × (kind_known (own w) s ≡ None)
word-shape w s (con.Var x) t = (ap (λ z. con.Var z) (word-spelt w s x t), subst (λ z. kind_known (own z) s ≡ None) (word-spelt w s x t) (word-hidden w s x t))
word-shape w s _ t = no t

-- `xml form []`
record FormIs (s : Scope) (f : ConForm) : Type 0 where
  o : Span
  q : Span
  t : Span
  u : Span
  is : f ≡ apply_con o (apply_con q (con.Var (codes "xml")) t (con.Var (codes "form"))) u (con.Row' [] end)
  xml : IsWord s (codes "xml")
  form_word : IsWord s (codes "form")

xml-shape : (s : Scope) (o u : Span) (h e : ConForm) → is_xml_form s h ≡ true → e ≡ con.Row' [] end → FormIs s (apply_con o h u e)
xml-shape s o u (con.App' _ (its q x alone) _ (its t y alone)) e i g = go (word-shape (codes "xml") s x (and-left (is_word (codes "xml") s x) (is_word (codes "form") s y) i))
    (word-shape (codes "form") s y (and-right (is_word (codes "xml") s x) (is_word (codes "form") s y) i)) where
      go : (x ≡ con.Var (codes "xml")) × (kind_known (own (codes "xml")) s ≡ None) → (y ≡ con.Var (codes "form")) × (kind_known (own (codes "form")) s ≡ None) → FormIs s (apply_con o (apply_con q x t y) u e)
      go v w = record {
        o = o;
        q = q;
        t = t;
        u = u;
        is = ap₂ (λ a b. apply_con o a u b) (ap₂ (λ a b. apply_con q a t b) v.0 w.0) g;
        xml = v.1;
        form_word = w.1;
      }
xml-shape s o u _ e i g = no i

form-shape : (s : Scope) (f : ConForm) → is_form s f ≡ true → FormIs s f
form-shape s (con.App' _ (its p h alone) _ (its q e alone)) t = xml-shape s p q h e (and-left (is_xml_form s h) (is_empty_row e) t) (row-shape e (and-right (is_xml_form s h) (is_empty_row e) t))
form-shape s _ t = no t

pub form-kind : {s : Scope} {h : Head} (a : Con) → h ≡ heads.Form → HasKind s a.form kind.Row → (p : Span) (f : ConForm) → HeadFits s f h → HasKind s (apply_con p f a.span a.form) kind.Star
form-kind {s = s} a e k p f h = go (form-shape s f (subst (λ z. HeadFits s f z) e h)) where
  go : FormIs s f → HasKind s (apply_con p f a.span a.form) kind.Star
  go m = lift-kind (form_con p m.o m.q m.t m.u a.span a.form) (ap (λ z. apply_con p z a.span a.form) m.is) (form m.xml m.form_word k)

pub head-fault : {s : Scope} {f : ConForm} → is_form s f ≡ false → is_map s f ≡ false → (r : Refusal) → HasFault s f r → HeadFault s f r
head-fault n m r h p q a = fault-within (head n m) h

map-word : (s : Scope) (h : ConForm) → is_word (codes "map") s h ≡ true → (h ≡ con.Var (codes "map")) × (kind_known (own (codes "map")) s ≡ None)
map-word s h t = word-shape (codes "map") s h t

pub map-made : {s : Scope} (c : ConForm) (h g x : Con) (w : Kind) → c ≡ con.App h g → x ≡ g → is_map s c ≡ true → w ≡ arrow kind.Star kind.Star → HasKind s x.form w → MapFits s c
map-made {s = s} c h g x w e f m q k = go (map-word s h.form (sym (ap (is_map s) (e ∙ apply-made h g)) ∙ m)) where
  go : (h.form ≡ con.Var (codes "map")) × (kind_known (own (codes "map")) s ≡ None) → MapFits s c
  go v = record {
    of = h.span;
    at = x.span;
    function = x.form;
    is = e ∙ (ap (λ z. con.App h z) (sym f) ∙ (apply-made h x ∙ ap (λ z. apply_con h.span z x.span x.form) v.0));
    word = v.1;
    kind_is = subst (λ z. HasKind s x.form z) q k;
  }

pub map-fault : {s : Scope} (c : ConForm) (h g x : Con) (w : Kind) → c ≡ con.App h g → x ≡ g → is_map s c ≡ true → w ≡ arrow kind.Star kind.Star → (r : Refusal) → Misfits s x.form w r → HeadFault s c r
map-fault {s = s} c h g x w e f m q r k p z a = go (map-word s h.form (sym (ap (is_map s) (e ∙ apply-made h g)) ∙ m)) where
  go : (h.form ≡ con.Var (codes "map")) × (kind_known (own (codes "map")) s ≡ None) → HasFault s (apply_con p c z a) r
  go v = subst (λ y. HasFault s (apply_con p y z a) r) (sym (e ∙ (ap (λ y. con.App h y) (sym f) ∙ (apply-made h x ∙ ap (λ y. apply_con h.span y x.span x.form) v.0))))
      (misfit-within (mapped v.1) (subst (λ y. Misfits s x.form y r) q k))

-- ---- applications

pub app-head-fault : {s : Scope} {c : ConForm} (f a x : Con) → c ≡ con.App f a → x ≡ f → (r : Refusal) → HeadFault s x.form r → HasFault s c r
app-head-fault {s = s} f a x e g r h = subst (λ z. HasFault s z r) (sym (e ∙ (ap (λ z. con.App z a) (sym g) ∙ apply-made x a))) (h x.span a.span a.form)

pub app-kind : {s : Scope} {c : ConForm} (x y : Con) → c ≡ apply_con x.span x.form y.span y.form → (h : Head) → HeadFits s x.form h → (k : Kind) →
    ((p : Span) (f : ConForm) → HeadFits s f h → HasKind s (apply_con p f y.span y.form) k) → HasKind s c k
app-kind x y e h m k n = lift-kind (apply_con x.span x.form y.span y.form) e (n x.span x.form m)

pub app-fault : {s : Scope} {c : ConForm} (x y : Con) → c ≡ apply_con x.span x.form y.span y.form → (h : Head) → HeadFits s x.form h → (r : Refusal) →
    ((p : Span) (f : ConForm) → HeadFits s f h → HasFault s (apply_con p f y.span y.form) r) → HasFault s c r
app-fault {s = s} x y e h m r n = subst (λ z. HasFault s z r) (sym e) (n x.span x.form m)

-- ---- what is given to a function

pub given-fault : {s : Scope} (k l i x : Kind) (a : Con) → k ≡ kind.Arrow l i → x ≡ l → (r : Refusal) → Misfits s a.form x r → (p : Span) (f : ConForm) → HasKind s f k → HasFault s (apply_con p f a.span a.form) r
given-fault {s = s} k l i x a e g r m p f h = misfit-within (given (subst (λ z. HasKind s f z) (e ∙ (ap (λ z. kind.Arrow z i) (sym g) ∙ kind-arrow x i)) h)) m

pub given-kind : {s : Scope} (k l i x j y : Kind) (a : Con) → k ≡ kind.Arrow l i → x ≡ l → y ≡ i → j ≡ y → HasKind s a.form x → (p : Span) (f : ConForm) → HasKind s f k → HasKind s (apply_con p f a.span a.form) j
given-kind {s = s} k l i x j y a e g u v m p f h = kind-at y v (applied (subst (λ z. HasKind s f z) (e ∙ (ap₂ kind.Arrow (sym g) (sym u) ∙ kind-arrow x y)) h) m)

pub argument-fault : {s : Scope} {k : Kind} (a : Con) (r : Refusal) → HasFault s a.form r → (p : Span) (f : ConForm) → HasKind s f k → HasFault s (apply_con p f a.span a.form) r
argument-fault a r m p f h = fault-within argument m

pub no-function : {s : Scope} (k i w : Kind) (a : Con) (r : Refusal) → is_plain k ≡ true → HasKind s a.form i → w ≡ arrow i kind.Star → TellsKind r (bad_kind k w) → (p : Span) (f : ConForm) → HasKind s f k →
    HasFault s (apply_con p f a.span a.form) r
no-function {s = s} k i w a r n h e t p f m = fault-here {f = bad_kind k (arrow i kind.Star)} (no_function m n h) (subst (λ z. TellsKind r (bad_kind k z)) e t)

-- ---- names of fields

star-not-name : kind.Star ≡ kind.Name → ⊥
star-not-name e = absurd (cc)

arrow-not-name : (k j : Kind) → arrow k j ≡ kind.Name → ⊥
arrow-not-name k j e = absurd (cc)

some-name : (k : Kind) → Some k ≡ Some kind.Name → k ≡ kind.Name
some-name k e = cc

none-name : None ≡ Some kind.Name → ⊥
none-name e = absurd (cc)

word-not-name : (x : List ℕ) → word_kind x ≡ Some kind.Name → ⊥
word-not-name x e = go (cases_Bool (is_type_word x)) (cases_Bool (is_maker_word x)) where
  go : (is_type_word x ≡ true) ⊎ (is_type_word x ≡ false) → (is_maker_word x ≡ true) ⊎ (is_maker_word x ≡ false) → ⊥
  go (inl t) m = star-not-name (some-name kind.Star (sym (type-word x t) ∙ e))
  go (inr t) (inl m) = arrow-not-name kind.Star kind.Star (some-name (arrow kind.Star kind.Star) (sym (maker-word x t m) ∙ e))
  go (inr t) (inr m) = none-name (sym (no-word x t m) ∙ e)

in-scope : (o w : Option Kind) → (w ≡ Some kind.Name → ⊥) → first o w ≡ Some kind.Name → o ≡ Some kind.Name
in-scope (Some k) w n e = e
in-scope None w n e = absurd (n e)

pub is-name : {s : Scope} (y : FieldName) (x : List ℕ) (k : Kind) → y ≡ field_name.Variable x → HasKind s (con.Var x) k → k ≡ kind.Name → IsName s y
is-name {s = s} y x k e h q = subst (λ z. IsName s z) (sym e) (variable (in-scope (kind_known (own x) s) (word_kind x) (word-not-name x) (kinded h ∙ ap (λ z. Some z) q)))

pub label-fault : {s : Scope} (y : FieldName) (x : List ℕ) → y ≡ field_name.Variable x → (r : Refusal) → HasFault s (con.Var x) r → LabelFault s y r
label-fault y x e r f = record { name = x; is = e; misfits = faulty f }

pub label-other : {s : Scope} (y : FieldName) (x : List ℕ) (k : Kind) → y ≡ field_name.Variable x → HasKind s (con.Var x) k → (r : Refusal) → IsOther k kind.Name r → LabelFault s y r
label-other y x k e h r o = record { name = x; is = e; misfits = other_kind h o.0 o.1 }

pub name-same : {E : Type 0} (r : Result (Unit {0}) E) {P Q : Type 0} → (P → Q) → OnOk r P → OnOk r Q
name-same (Ok b) f h = f h
name-same (Err e) f h = h

-- ---- fields

pub bare-fault : {s : Scope} (f : CField) (n : FieldName) → f ≡ con_field.Bare n → (r : Refusal) → LabelFault s n r → FieldFault s f r
bare-fault {s = s} f n e r l = subst (λ z. FieldFault s z r) (sym (e ∙ ap (λ z. con_field.Bare z) l.is))
    (record { part = con.Var l.name; wanted = kind.Name; stands = bare_name; misfits = l.misfits })

pub name-fault : {s : Scope} (f : CField) (n : FieldName) (c : Con) → f ≡ con_field.Given n c → (r : Refusal) → LabelFault s n r → FieldFault s f r
name-fault {s = s} f n c e r l = subst (λ z. FieldFault s z r) (sym (e ∙ ap (λ z. con_field.Given z c) l.is))
    (record { part = con.Var l.name; wanted = kind.Name; stands = given_name; misfits = l.misfits })

pub type-fault : {s : Scope} (f : CField) (n : FieldName) (c : Con) → f ≡ con_field.Given n c → (r : Refusal) → Misfits s c.form kind.Star r → FieldFault s f r
type-fault {s = s} f n c e r m = subst (λ z. FieldFault s z r) (sym e) (record { part = c.form; wanted = kind.Star; stands = field_type; misfits = m })

pub record-type-fault : {s : Scope} (f : RecordField) (r : Refusal) → Misfits s f.con.form kind.Star r → RecordFieldFault s f r
record-type-fault f r m = record { part = f.con.form; wanted = kind.Star; stands = record_field_type; misfits = m }

pub record-name-fault : {s : Scope} (f : RecordField) (r : Refusal) → LabelFault s f.name r → RecordFieldFault s f r
record-name-fault f r l = record { part = con.Var l.name; wanted = kind.Name; stands = subst (λ z. RecordFieldPart z f.con.form (con.Var l.name) kind.Name) (sym l.is) record_field_name; misfits = l.misfits }

-- ---- rows

abbrev pub AllKinded : Scope → List CField → Type 0
AllKinded s [] = Unit {0}
AllKinded s (f ∷ fs) = FieldKinded s f × AllKinded s fs

abbrev pub AllRecordKinded : Scope → List RecordField → Type 0
AllRecordKinded s [] = Unit {0}
AllRecordKinded s (f ∷ fs) = RecordFieldKinded s f × AllRecordKinded s fs

have-kinds : (s : Scope) (fs : List CField) → AllKinded s fs → HaveKinds s _ (row fs).1
have-kinds s [] a = none
have-kinds s (con_field.Bare x ∷ fs) a = bare a.0 (have-kinds s fs a.1)
have-kinds s (con_field.Given' x p c ∷ fs) a = given_field a.0.0 a.0.1 (have-kinds s fs a.1)

record-kinds : (s : Scope) (fs : List RecordField) → AllRecordKinded s fs → RecordHasKinds s _ (record_row fs).1
record-kinds s [] a = no_field
record-kinds s (f ∷ fs) a = a_field a.0.0 a.0.1 (record-kinds s fs a.1)

-- what is left of the fields being kinded, all are
abbrev pub RestSuffices : Scope → List CField → ℕ → Type 0
RestSuffices s fs i = AllKinded s (drop i fs) → AllKinded s fs

abbrev pub RecordRestSuffices : Scope → List RecordField → ℕ → Type 0
RecordRestSuffices s fs i = AllRecordKinded s (drop i fs) → AllRecordKinded s fs

pub row-goes-on : (s : Scope) (fs : List CField) (i : ℕ) (f : CField) → i < length fs → f ≡ get_or fs i f → FieldKinded s f → RestSuffices s fs i → RestSuffices s fs (i + 1)
row-goes-on s fs i f h g k n a = n (subst (λ z. AllKinded s z) (sym (next-drop fs i f h g)) (k, a))

pub record-goes-on : (s : Scope) (fs : List RecordField) (i : ℕ) (f : RecordField) → i < length fs → f ≡ get_or fs i f → RecordFieldKinded s f → RecordRestSuffices s fs i → RecordRestSuffices s fs (i + 1)
record-goes-on s fs i f h g k n a = n (subst (λ z. AllRecordKinded s z) (sym (next-drop fs i f h g)) (k, a))

pub row-kinded : (s : Scope) (gs fs : List CField) (i : ℕ) → fs ≡ gs → length fs ≤ i → i ≤ length fs → RestSuffices s fs i → HasKind s (con.Row gs) kind.Row
row-kinded s gs fs i e h k n = subst (λ z. HasKind s (con.Row z) kind.Row) e (lift-kind (con.Row' (row fs).0 (row fs).1) (fields-made fs)
    (row_kind (have-kinds s fs (n (subst (λ z. AllKinded s z) (sym (ap (λ j. drop j fs) (meet i (length fs) h k) ∙ drop-length fs)) tt)))))

pub record-kinded : (s : Scope) (gs fs : List RecordField) (i : ℕ) → fs ≡ gs → length fs ≤ i → i ≤ length fs → RecordRestSuffices s fs i → HasKind s (con.Record gs) kind.Star
record-kinded s gs fs i e h k n = subst (λ z. HasKind s (con.Record z) kind.Star) e (lift-kind (con.Record' (record_row fs).0 (record_row fs).1) (record-made fs)
    (record_type (record-kinds s fs (n (subst (λ z. AllRecordKinded s z) (sym (ap (λ j. drop j fs) (meet i (length fs) h k) ∙ drop-length fs)) tt)))))

less : (i n : ℕ) → suc i < suc n → i < n
less i n h = omega arith

nothing-below : {A : Type 0} (i : ℕ) → i < 0 → A
nothing-below i h = absurd (omega arith)

row-part : {c : ConForm} {k : Kind} (fs : List CField) (i : ℕ) (f : CField) → i < length fs → f ≡ get_or fs i f → FieldPart f c k → RowPart _ (row fs).1 c k
row-part [] i f h g p = nothing-below i h
row-part {c = c} {k = k} (e ∷ fs) zero f h g p = here (subst (λ z. FieldPart z c k) g p)
row-part (e ∷ fs) (suc i) f h g p = later (row-part fs i f (less i (length fs) h) g p)

record-part : {c : ConForm} {k : Kind} (fs : List RecordField) (i : ℕ) (f : RecordField) → i < length fs → f ≡ get_or fs i f → RecordFieldPart f.name f.con.form c k → RecordPart _ (record_row fs).1 c k
record-part [] i f h g p = nothing-below i h
record-part {c = c} {k = k} (e ∷ fs) zero f h g p = here_too (subst (λ (z : RecordField). RecordFieldPart z.name z.con.form c k) g p)
record-part (e ∷ fs) (suc i) f h g p = later_too (record-part fs i f (less i (length fs) h) g p)

pub row-fault : {s : Scope} (gs fs : List CField) (i : ℕ) (f : CField) → fs ≡ gs → i < length fs → f ≡ get_or fs i f → (r : Refusal) → FieldFault s f r → HasFault s (con.Row gs) r
row-fault {s = s} gs fs i f e h g r l = subst (λ z. HasFault s (con.Row z) r) e (lift-misfit (con.Row' (row fs).0 (row fs).1) (fields-made fs) (in_row (row-part fs i f h g l.stands)) r l.misfits)

pub record-fault : {s : Scope} (gs fs : List RecordField) (i : ℕ) (f : RecordField) → fs ≡ gs → i < length fs → f ≡ get_or fs i f → (r : Refusal) → RecordFieldFault s f r → HasFault s (con.Record gs) r
record-fault {s = s} gs fs i f e h g r l = subst (λ z. HasFault s (con.Record z) r) e (lift-misfit (con.Record' (record_row fs).0 (record_row fs).1) (record-made fs) (in_record (record-part fs i f h g l.stands)) r l.misfits)

-- ---- the public answers

told-some : (o : Option (List ℕ)) (x : Refusal) (P : Type 0) → NamesTold (Err (stop.Refused x)) o → Told o x P
told-some (Some n) x P t = t
told-some None x P t = absurd t

told-there : (o : Option (List ℕ)) (x : Refusal) → NamesTold (Err (stop.Refused x)) o → o ≡ None → ⊥
told-there (Some n) x t e = absurd (cc)
told-there None x t e = t

pub names-no-kind : {B : Type 0} (s : Scope) (c : ConForm) (r : Result B Stop) (e : Stop) → IsErrAnd r (λ y. y ≡ e) → NamesTold (Err e) (unknown_in s c) → IfRefused r (HasNoKind s c)
names-no-kind s c (Ok b) e i t = absurd i
names-no-kind s c (Err (stop.Refused x)) e i t = go (subst (λ z. NamesTold (Err z) (unknown_in s c)) (sym i) t) where
  go : NamesTold (Err (stop.Refused x)) (unknown_in s c) → HasNoKind s c x
  go t = record { none = λ k h. told-there (unknown_in s c) x t (kinded-known s c k h); told = told-some (unknown_in s c) x (HasFault s c x) t }
names-no-kind s c (Err stop.Memory) e i t = tt

pub names-not-kind : {B : Type 0} (s : Scope) (c : ConForm) (w : Kind) (r : Result B Stop) (e : Stop) → IsErrAnd r (λ y. y ≡ e) → NamesTold (Err e) (unknown_in s c) → IfRefused r (HasNotKind s c w)
names-not-kind s c w (Ok b) e i t = absurd i
names-not-kind s c w (Err (stop.Refused x)) e i t = go (subst (λ z. NamesTold (Err z) (unknown_in s c)) (sym i) t) where
  go : NamesTold (Err (stop.Refused x)) (unknown_in s c) → HasNotKind s c w x
  go t = record { none = λ h. told-there (unknown_in s c) x t (kinded-known s c w h); told = told-some (unknown_in s c) x (Misfits s c w x) t }
names-not-kind s c w (Err stop.Memory) e i t = tt

told-kinds : (o : Option (List ℕ)) (x : Refusal) (P : Type 0) → o ≡ None → x.code ≡ 9 → P → Told o x P
told-kinds o x P e n p = subst (λ z. Told z x P) (sym e) (n, p)

pub kindless : (s : Scope) (c : ConForm) → unknown_in s c ≡ None → (x : Refusal) → HasFault s c x → HasNoKind s c x
kindless s c e x f = record { none = faulty-none f; told = told-kinds (unknown_in s c) x (HasFault s c x) e (fault-known f e) f }

misfit-none : {s : Scope} {c : ConForm} {w : Kind} {x : Refusal} → Misfits s c w x → HasKind s c w → ⊥
misfit-none {w = w} (faulty f) h = faulty-none f w h
misfit-none {s = s} {c = c} {w = w} (other_kind {found = k} i n t) h = n (one-kind s c k w i h)

misfit-code : {s : Scope} {c : ConForm} {w : Kind} {x : Refusal} → unknown_in s c ≡ None → Misfits s c w x → x.code ≡ 9
misfit-code e (faulty f) = fault-known f e
misfit-code e (other_kind i n t) = t.0

pub kind-missing : (s : Scope) (c : ConForm) (w : Kind) → unknown_in s c ≡ None → (x : Refusal) → Misfits s c w x → HasNotKind s c w x
kind-missing s c w e x m = record { none = misfit-none m; told = told-kinds (unknown_in s c) x (Misfits s c w x) e (misfit-code e m) m }
