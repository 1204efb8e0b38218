-- The names in the constructors that the code matches.
use Rattle.std.proofs.Common.{◌≡◌, refl, ap, ap₂, sym, ◌∙◌, List, [], ◌∷◌, ◌++◌, ℕ, flat_map}
use Rattle.std.proofs.lemmas.List.{append_assoc}
use Rattle.ur_syntax.specs.declared.kind.Kind.{Kind}
use Rattle.ur_syntax.specs.declared.con.Con.{Con}
use Rattle.ur_syntax.specs.declared.con.CField.{CField}
use Rattle.ur_syntax.specs.declared.con.RecordField.{RecordField}
use Rattle.ur_syntax.specs.declared.con.ConForm.{ConForm}
use Rattle.ur_syntax.specs.declared.con.ConForm.TheVariants as con
use Rattle.ur_syntax.proofs.Shapes.{row, record_row, fn-made, arrow-made, concat-made, apply-made, dollar-made, fields-made, record-made}
use Rattle.ur_tree.specs.FieldNames.{of_form, of_con, of_fields, of_field, of_record, of_name}
use Rattle.ur_check.specs.Parts.{of_record_field}

pub in-lambda : {f : ConForm} {x : List ℕ} {k : Kind} {a c : Con} → f ≡ con.Lambda x k a → c ≡ a → of_form f ≡ of_con c
in-lambda {x = x} {k = k} {c = c} e g = ap of_form (e ∙ (ap (con.Lambda x k) (sym g) ∙ fn-made x k c))

pub in-arrow : {f : ConForm} {a b x y : Con} → f ≡ con.Arrow a b → x ≡ a → y ≡ b → of_form f ≡ of_con x ++ of_con y
in-arrow {x = x} {y = y} e g h = ap of_form (e ∙ (ap₂ con.Arrow (sym g) (sym h) ∙ arrow-made x y))

pub in-concat : {f : ConForm} {a b x y : Con} → f ≡ con.Concat a b → x ≡ a → y ≡ b → of_form f ≡ of_con x ++ of_con y
in-concat {x = x} {y = y} e g h = ap of_form (e ∙ (ap₂ con.Concat (sym g) (sym h) ∙ concat-made x y))

pub in-apply : {f : ConForm} {a b x y : Con} → f ≡ con.App a b → x ≡ a → y ≡ b → of_form f ≡ of_con x ++ of_con y
in-apply {x = x} {y = y} e g h = ap of_form (e ∙ (ap₂ con.App (sym g) (sym h) ∙ apply-made x y))

pub in-dollar : {f : ConForm} {a x : Con} → f ≡ con.RecordOf a → x ≡ a → of_form f ≡ of_con x
in-dollar {x = x} e g = ap of_form (e ∙ (ap con.RecordOf (sym g) ∙ dollar-made x))

row-is : (fs : List CField) → of_fields (row fs).1 ≡ flat_map of_field fs
row-is [] = refl
row-is (f ∷ fs) = ap (λ es. of_field f ++ es) (row-is fs)

record-is : (fs : List RecordField) → of_record (record_row fs).1 ≡ flat_map of_record_field fs
record-is [] = refl
record-is (f ∷ fs) = ap (λ es. of_name f.name ++ (of_con f.con ++ es)) (record-is fs) ∙ sym (append_assoc (of_name f.name) (of_con f.con) (flat_map of_record_field fs))

pub in-row : {f : ConForm} {a x : List CField} → f ≡ con.Row a → x ≡ a → of_form f ≡ flat_map of_field x
in-row {x = x} e g = ap of_form (e ∙ (ap con.Row (sym g) ∙ fields-made x)) ∙ row-is x

pub in-record : {f : ConForm} {a x : List RecordField} → f ≡ con.Record a → x ≡ a → of_form f ≡ flat_map of_record_field x
in-record {x = x} e g = ap of_form (e ∙ (ap con.Record (sym g) ∙ record-made x)) ∙ record-is x
