-- Where a name stands twice in a written constructor.
use Rattle.std.proofs.Common.{◌≡◌, refl, ap, ap₂, sym, ◌∙◌, ℕ, Bool, true, false, List, [], ◌∷◌, ◌++◌, map, Option, Some, None}
use Rattle.std.specs.Prelude.{if◌then◌else◌}
use Rattle.std.specs.List.{list_any}
use Rattle.ur_syntax.specs.declared.kind.Kind.{Kind}
use Rattle.ur_syntax.specs.declared.con.Con.{Con}
use Rattle.ur_syntax.specs.declared.con.ConForm.{ConForm}
use Rattle.ur_syntax.specs.declared.con.ConForm.TheVariants as con
use Rattle.ur_syntax.specs.declared.con.CField.{CField}
use Rattle.ur_syntax.specs.declared.con.CField.TheVariants as con_field
use Rattle.ur_syntax.specs.declared.con.FieldName.{FieldName}
use Rattle.ur_syntax.specs.declared.con.RecordField.{RecordField}
use Rattle.ur_syntax.proofs.Shapes.{row, record_row, fn-made, arrow-made, concat-made, apply-made, dollar-made, fields-made, record-made, given-made}
use Rattle.ur_typed_rules.specs.Names.{is_named}
use Rattle.ur_typed_rules.specs.Repeats.{literal_name, field_literal, rows_written, names_in_row, rows_in_row, rows_in_field, names_in_record, rows_in_record, or_else, twice_of, first_twice, first_repeated}
use Rattle.ur_check_scopes.specs.Given.{again, first_in_field, first_in_fields, first_in_record}

-- ---- one step of the search for a name that stands twice

if-none : (b : Bool) (x : List ℕ) (r : Option (List ℕ)) → (if b then Some x else None) ≡ None → (if b then Some x else r) ≡ r
if-none true x r h = absurd (cc)
if-none false x r h = refl

if-some : (b : Bool) (x y : List ℕ) (r : Option (List ℕ)) → (if b then Some x else None) ≡ Some y → (if b then Some x else r) ≡ Some y
if-some true x y r h = h
if-some false x y r h = absurd (cc)

again-none : (y : Option (List ℕ)) (names : List (Option (List ℕ))) → again y names ≡ None → twice_of (y ∷ names) ≡ twice_of names
again-none None names h = refl
again-none (Some x) names h = if-none (list_any (is_named x) names) x (twice_of names) h

again-some : (y : Option (List ℕ)) (names : List (Option (List ℕ))) (x : List ℕ) → again y names ≡ Some x → twice_of (y ∷ names) ≡ Some x
again-some None names x h = absurd (cc)
again-some (Some y) names x h = if-some (list_any (is_named y) names) y x (twice_of names) h

pub twice-past : {A : Type 0} (f : A → Option (List ℕ)) (left rest : List A) (x : A) → left ≡ x ∷ rest → again (f x) (map f rest) ≡ None → twice_of (map f left) ≡ twice_of (map f rest)
twice-past f left rest x is h = ap (λ z. twice_of (map f z)) is ∙ again-none (f x) (map f rest) h

pub twice-found : {A : Type 0} (f : A → Option (List ℕ)) (left rest : List A) (x : A) (name : List ℕ) → left ≡ x ∷ rest → again (f x) (map f rest) ≡ Some name → twice_of (map f left) ≡ Some name
twice-found f left rest x name is h = ap (λ z. twice_of (map f z)) is ∙ again-some (f x) (map f rest) name h

-- ---- the rows that are written in a constructor

pub else-none : {A : Type 0} (x y : Option A) → x ≡ None → or_else x y ≡ y
else-none x y h = ap (λ z. or_else z y) h

pub else-some : {A : Type 0} (x y : Option A) (a : A) → x ≡ Some a → or_else x y ≡ Some a
else-some x y a h = ap (λ z. or_else z y) h

else-assoc : {A : Type 0} (x y z : Option A) → or_else (or_else x y) z ≡ or_else x (or_else y z)
else-assoc None y z = refl
else-assoc (Some a) y z = refl

first-append : (r s : List (List (Option (List ℕ)))) → first_twice (r ++ s) ≡ or_else (first_twice r) (first_twice s)
first-append [] s = refl
first-append (names ∷ r) s = ap (or_else (twice_of names)) (first-append r s) ∙ sym (else-assoc (twice_of names) (first_twice r) (first_twice s))

pub written-lambda : (x : List ℕ) (k : Kind) (c : Con) → first_repeated (con.Lambda x k c) ≡ first_repeated c.form
written-lambda x k c = ap first_repeated (fn-made x k c)

pub written-arrow : (a b : Con) → first_repeated (con.Arrow a b) ≡ or_else (first_repeated a.form) (first_repeated b.form)
written-arrow a b = ap first_repeated (arrow-made a b) ∙ first-append (rows_written a.form) (rows_written b.form)

pub written-concat : (a b : Con) → first_repeated (con.Concat a b) ≡ or_else (first_repeated a.form) (first_repeated b.form)
written-concat a b = ap first_repeated (concat-made a b) ∙ first-append (rows_written a.form) (rows_written b.form)

pub written-app : (a b : Con) → first_repeated (con.App a b) ≡ or_else (first_repeated a.form) (first_repeated b.form)
written-app a b = ap first_repeated (apply-made a b) ∙ first-append (rows_written a.form) (rows_written b.form)

pub written-dollar : (r : Con) → first_repeated (con.RecordOf r) ≡ first_repeated r.form
written-dollar r = ap first_repeated (dollar-made r)

row-names : (fields : List CField) → names_in_row (row fields).1 ≡ map field_literal fields
row-names [] = refl
row-names (f ∷ fields) = ap (λ z. field_literal f ∷ z) (row-names fields)

row-fields : (fields : List CField) → first_twice (rows_in_row (row fields).1) ≡ first_in_fields fields
row-fields [] = refl
row-fields (f ∷ fields) = first-append (rows_in_field f) (rows_in_row (row fields).1) ∙ ap (or_else (first_in_field f)) (row-fields fields)

pub written-row : (fields : List CField) → first_repeated (con.Row fields) ≡ or_else (twice_of (map field_literal fields)) (first_in_fields fields)
written-row fields = ap first_repeated (fields-made fields) ∙ ap₂ or_else (ap twice_of (row-names fields)) (row-fields fields)

record-names : (fields : List RecordField) → names_in_record (record_row fields).1 ≡ map (λ f. literal_name f.name) fields
record-names [] = refl
record-names (f ∷ fields) = ap (λ z. literal_name f.name ∷ z) (record-names fields)

record-fields : (fields : List RecordField) → first_twice (rows_in_record (record_row fields).1) ≡ first_in_record fields
record-fields [] = refl
record-fields (f ∷ fields) = first-append (rows_written f.con.form) (rows_in_record (record_row fields).1) ∙ ap (or_else (first_repeated f.con.form)) (record-fields fields)

pub written-record : (fields : List RecordField) → first_repeated (con.Record fields) ≡ or_else (twice_of (map (λ f. literal_name f.name) fields)) (first_in_record fields)
written-record fields = ap first_repeated (record-made fields) ∙ ap₂ or_else (ap twice_of (record-names fields)) (record-fields fields)

pub written-given : (x : FieldName) (c : Con) → first_in_field (con_field.Given x c) ≡ first_repeated c.form
written-given x c = ap first_in_field (given-made x c)

pub literal-given : (x : FieldName) (c : Con) → field_literal (con_field.Given x c) ≡ literal_name x
literal-given x c = ap field_literal (given-made x c)

-- what stands twice in the body of a function
pub in-lambda : (f : ConForm) (x : List ℕ) (k : Kind) (c y : Con) (o : Option (List ℕ)) → f ≡ con.Lambda x k c → y ≡ c → o ≡ first_repeated y.form → o ≡ first_repeated f
in-lambda f x k c y o e h j = j ∙ ap (λ c. first_repeated c.form) h ∙ sym (written-lambda x k c) ∙ sym (ap first_repeated e)

-- behind a part in which no name stands twice
pub both-none : (f : ConForm) (a b x y : Con) (o : Option (List ℕ)) → first_repeated f ≡ or_else (first_repeated a.form) (first_repeated b.form) → x ≡ a → y ≡ b → None ≡ first_repeated x.form → o ≡ first_repeated y.form → o ≡ first_repeated f
both-none f a b x y o e h k n j =
    j ∙ ap (λ c. first_repeated c.form) k ∙ sym (else-none (first_repeated a.form) (first_repeated b.form) (sym (n ∙ ap (λ c. first_repeated c.form) h))) ∙ sym e

pub ruleset repeating = (twice-past, twice-found)

pub ruleset written = (written-lambda, written-arrow, written-concat, written-app, written-dollar, written-row, written-record, written-given, else-none, else-some)
