-- The events of the constructors that the code matches.
use Rattle.std.proofs.Common.{◌≡◌, refl, ap, ap₂, sym, ◌∙◌, List, [], ◌∷◌, ◌++◌, ℕ, codes, ◌&&◌, Bool, true, false, IsTrue, ◌↔◌, flat_map}
use Rattle.ur_base.specs.declared.refusal.Span.{Span}
use Rattle.ur_syntax.specs.declared.kind.Kind.{Kind}
use Rattle.ur_syntax.specs.declared.con.Con.{Con}
use Rattle.ur_syntax.specs.declared.con.CField.{CField}
use Rattle.ur_syntax.specs.declared.con.RecordField.{RecordField}
use Rattle.ur_syntax.specs.declared.con.ConForm.{ConForm}
use Rattle.ur_syntax.specs.declared.con.ConForm.TheVariants as con
use Rattle.ur_syntax.proofs.Shapes.{row, record_row, fn-made, arrow-made, concat-made, apply-made, dollar-made, fields-made, record-made}
use Rattle.ur_names.specs.declared.event.Sort.TheVariants as sort
use Rattle.ur_names.specs.declared.event.Event.{Event}
use Rattle.ur_names.specs.declared.event.Event.TheVariants as event
use Rattle.ur_names.specs.Cons.{in_con, in_head, in_mapped, in_fields, in_field, in_record, in_record_field, in_written, is_word, is_empty_row, is_xml_form, is_form, is_map}

pub in-lambda : {f : ConForm} {x : List ℕ} {k : Kind} {a c : Con} (p : Span) → f ≡ con.Lambda x k a → c ≡ a →
    in_con p f ≡ (event.Open ∷ []) ++ (event.Bind sort.Con x ∷ []) ++ in_written c ++ event.Close ∷ []
in-lambda {x = x} {k = k} {c = c} p e g = ap (in_con p) (e ∙ (ap (con.Lambda x k) (sym g) ∙ fn-made x k c))

pub in-arrow : {f : ConForm} {a b x y : Con} (p : Span) → f ≡ con.Arrow a b → x ≡ a → y ≡ b → in_con p f ≡ in_written x ++ in_written y
in-arrow {x = x} {y = y} p e g h = ap (in_con p) (e ∙ (ap₂ con.Arrow (sym g) (sym h) ∙ arrow-made x y))

pub in-concat : {f : ConForm} {a b x y : Con} (p : Span) → f ≡ con.Concat a b → x ≡ a → y ≡ b → in_con p f ≡ in_written x ++ in_written y
in-concat {x = x} {y = y} p e g h = ap (in_con p) (e ∙ (ap₂ con.Concat (sym g) (sym h) ∙ concat-made x y))

pub in-apply : {f : ConForm} {a b x y : Con} (p : Span) → f ≡ con.App a b → x ≡ a → y ≡ b → in_con p f ≡ in_head x.span x.form ++ in_written y
in-apply {x = x} {y = y} p e g h = ap (in_con p) (e ∙ (ap₂ con.App (sym g) (sym h) ∙ apply-made x y))

pub in-mapped-function : {f : ConForm} {b y : Con} (p : Span) (a : Con) → f ≡ con.App a b → y ≡ b → in_mapped p f ≡ (event.Map p ∷ []) ++ in_written y
in-mapped-function {y = y} p a e h = ap (in_mapped p) (e ∙ (ap (con.App a) (sym h) ∙ apply-made a y))

pub in-dollar : {f : ConForm} {a x : Con} (p : Span) → f ≡ con.RecordOf a → x ≡ a → in_con p f ≡ in_written x
in-dollar {x = x} p e g = ap (in_con p) (e ∙ (ap con.RecordOf (sym g) ∙ dollar-made x))

row-is : (p : Span) (fs : List CField) → in_fields p (row fs).1 ≡ flat_map (in_field p) fs
row-is p [] = refl
row-is p (f ∷ fs) = ap (λ es. in_field p f ++ es) (row-is p fs)

record-is : (p : Span) (fs : List RecordField) → in_record p (record_row fs).1 ≡ flat_map (in_record_field p) fs
record-is p [] = refl
record-is p (f ∷ fs) = ap (λ es. in_record_field p f ++ es) (record-is p fs)

pub in-row : {f : ConForm} {a x : List CField} (p : Span) → f ≡ con.Row a → x ≡ a → in_con p f ≡ flat_map (in_field p) x
in-row {x = x} p e g = ap (in_con p) (e ∙ (ap con.Row (sym g) ∙ fields-made x)) ∙ row-is p x

pub in-record : {f : ConForm} {a x : List RecordField} (p : Span) → f ≡ con.Record a → x ≡ a → in_con p f ≡ flat_map (in_record_field p) x
in-record {x = x} p e g = ap (in_con p) (e ∙ (ap con.Record (sym g) ∙ record-made x)) ∙ record-is p x

-- ---- words

pub xml-then : {f : ConForm} {a b x y : Con} {w : Bool} → f ≡ con.App a b → x ≡ a → y ≡ b → true ≡ is_word (codes "xml") x.form → w ≡ is_word (codes "form") y.form → w ≡ is_xml_form f
xml-then {x = x} {y = y} e g h v w = w ∙ (ap (λ z. z && is_word (codes "form") y.form) v ∙ sym (ap is_xml_form (e ∙ (ap₂ con.App (sym g) (sym h) ∙ apply-made x y))))

pub xml-else : {f : ConForm} {x : Con} (a b : Con) → f ≡ con.App a b → x ≡ a → false ≡ is_word (codes "xml") x.form → false ≡ is_xml_form f
xml-else {x = x} a b e g v = ap (λ z. z && is_word (codes "form") b.form) v ∙ sym (ap is_xml_form (e ∙ (ap (λ z. con.App z b) (sym g) ∙ apply-made x b)))

pub form-then : {f : ConForm} {a b x y : Con} {w : Bool} → f ≡ con.App a b → x ≡ a → y ≡ b → true ≡ is_xml_form x.form → w ≡ is_empty_row y.form → w ≡ is_form f
form-then {x = x} {y = y} e g h v w = w ∙ (ap (λ z. z && is_empty_row y.form) v ∙ sym (ap is_form (e ∙ (ap₂ con.App (sym g) (sym h) ∙ apply-made x y))))

pub form-else : {f : ConForm} {x : Con} (a b : Con) → f ≡ con.App a b → x ≡ a → false ≡ is_xml_form x.form → false ≡ is_form f
form-else {x = x} a b e g v = ap (λ z. z && is_empty_row b.form) v ∙ sym (ap is_form (e ∙ (ap (λ z. con.App z b) (sym g) ∙ apply-made x b)))

pub map-is : {f : ConForm} {x : Con} {v : Bool} (a b : Con) → f ≡ con.App a b → x ≡ a → v ≡ is_word (codes "map") x.form → v ≡ is_map f
map-is {x = x} a b e g v = v ∙ sym (ap is_map (e ∙ (ap (λ z. con.App z b) (sym g) ∙ apply-made x b)))

some-list : {B : Type 0} {x : CField} {xs : List CField} → x ∷ xs ≡ [] → B
some-list e = absurd (cc)

pub row-empty : (b : Bool) (fs : List CField) → IsTrue b ↔ (fs ≡ []) → b ≡ is_empty_row (con.Row fs)
row-empty b fs h = go b fs h ∙ ap is_empty_row (sym (fields-made fs)) where
  go : (b : Bool) (fs : List CField) → IsTrue b ↔ (fs ≡ []) → b ≡ is_empty_row (con.Row' (row fs).0 (row fs).1)
  go b [] h = h.1 refl
  go true (f ∷ fs) h = some-list (h.0 refl)
  go false (f ∷ fs) h = refl
