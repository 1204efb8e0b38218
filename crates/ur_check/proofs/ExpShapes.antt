-- The names in the expressions that the code matches.
use Rattle.std.proofs.Common.{◌≡◌, refl, ap, ap₂, sym, ◌∙◌, List, [], ◌++◌, flat_map, append-nil, append_assoc}
use mathlib.Core.Former.{Count}
use Rattle.ur_syntax.specs.declared.con.Con.{Con}
use Rattle.ur_syntax.specs.declared.con.FieldName.{FieldName}
use Rattle.ur_syntax.specs.declared.sql.DeclName.{DeclName}
use Rattle.ur_syntax.specs.declared.sql.SqlQuery.{SqlQuery}
use Rattle.ur_syntax.specs.declared.sql.SqlChange.{SqlChange}
use Rattle.ur_syntax.specs.declared.xml.Xml.{Xml}
use Rattle.ur_syntax.specs.declared.exp.Binder.{Binder}
use Rattle.ur_syntax.specs.declared.exp.Binary.{Binary}
use Rattle.ur_syntax.specs.declared.exp.QueryWord.{QueryWord}
use Rattle.ur_syntax.specs.declared.exp.Removed.{Removed}
use Rattle.ur_syntax.specs.declared.exp.LambdaParam.{LambdaParam}
use Rattle.ur_syntax.specs.declared.exp.Exp.{Exp}
use Rattle.ur_syntax.specs.declared.exp.Branch.{Branch}
use Rattle.ur_syntax.specs.declared.exp.Field.{Field}
use Rattle.ur_syntax.specs.declared.exp.LetVal.{LetVal}
use Rattle.ur_syntax.specs.declared.exp.ExpForm.{ExpForm, Row_of-Exp, end_of-Exp as alone, more_of-Exp as its, Row_of-Field, end_of-Field, more_of-Field, Row_of-Branch, end_of-Branch, more_of-Branch, Row_of-LetVal, end_of-LetVal, more_of-LetVal, items-the_row-Exp, items-the_row-Field, items-the_row-Branch, items-the_row-LetVal, items_hidden-the_row-Branch-1, items_hidden-the_row-Field-2, items_hidden-the_row-Exp-3, items_hidden-the_row-LetVal-4}
use Rattle.ur_syntax.specs.declared.exp.ExpForm.TheVariants as e
use Rattle.ur_syntax.specs.declared.exp.ExpForm.TheBlock as B
use Rattle.ur_tree.specs.FieldNames.{of_name, of_con, of_lambda_param, of_query, of_xml, of_exp, of_exps, of_values, of_branches, of_vals}
use Rattle.ur_check.specs.Parts.{of_written, of_value, of_branch, of_val}

-- ---- lists

values-are : (n : _) (row : Row_of-Field n) → of_values row ≡ flat_map of_value (items-the_row-Field n row)
values-are n end_of-Field = refl
values-are n (more_of-Field x q a rest) = ap (λ es. of_name x ++ (of_exp a ++ es)) (values-are _ rest) ∙ sym (append_assoc (of_name x) (of_exp a) (flat_map of_value (items-the_row-Field _ rest)))

branches-are : (n : _) (row : Row_of-Branch n) → of_branches row ≡ flat_map of_branch (items-the_row-Branch n row)
branches-are n end_of-Branch = refl
branches-are n (more_of-Branch x q a rest) = ap (λ es. of_exp a ++ es) (branches-are _ rest)

vals-are : (n : _) (row : Row_of-LetVal n) → of_vals row ≡ flat_map of_val (items-the_row-LetVal n row)
vals-are n end_of-LetVal = refl
vals-are n (more_of-LetVal s x c q a rest) = ap (λ es. of_con c ++ (of_exp a ++ es)) (vals-are _ rest) ∙ sym (append_assoc (of_con c) (of_exp a) (flat_map of_val (items-the_row-LetVal _ rest)))

exps-are : (n : _) (row : Row_of-Exp n) → of_exps row ≡ flat_map of_written (items-the_row-Exp n row)
exps-are n alone = refl
exps-are n (its q a rest) = ap (λ es. of_exp a ++ es) (exps-are _ rest)

abbrev fields_of : ExpForm → (n : Count) × Row_of-Field n
fields_of (e.Record' _ row) = (_, row)
fields_of _ = (_, end_of-Field)

abbrev branches_of : ExpForm → (n : Count) × Row_of-Branch n
branches_of (e.Case' _ a _ row) = (_, row)
branches_of _ = (_, end_of-Branch)

abbrev vals_of : ExpForm → (n : Count) × Row_of-LetVal n
vals_of (e.Let' _ row _ a) = (_, row)
vals_of _ = (_, end_of-LetVal)

abbrev exps_of : ExpForm → (n : Count) × Row_of-Exp n
exps_of (e.Xml' x _ row _ more) = (_, row)
exps_of (e.Dml' c _ row) = (_, row)
exps_of (e.Query' w q _ row) = (_, row)
exps_of (e.QueryX' q _ row _ a) = (_, row)
exps_of _ = (_, alone)

abbrev attributes_of : ExpForm → (n : Count) × Row_of-Exp n
attributes_of (e.Xml' x _ row _ more) = (_, more)
attributes_of _ = (_, alone)

none : (a : Exp) → of_written a ++ [] ≡ of_written a
none a = append-nil (of_written a)

-- ---- each form

bind-made : (u : Binder) (a : Exp) (b : Exp) → of_exp (e.Bind u a b) ≡ of_written a ++ of_written b
unfolding B.hidden-the_row-Exp-0 denote.Hole.Carrier.hidden
bind-made u a b =
    ap₂ (λ xs ys. xs ++ ys) (none a) (none b)

seq-made : (a : Exp) (b : Exp) → of_exp (e.Seq a b) ≡ of_written a ++ of_written b
unfolding B.hidden-the_row-Exp-0 denote.Hole.Carrier.hidden
seq-made a b =
    ap₂ (λ xs ys. xs ++ ys) (none a) (none b)

if-made : (a : Exp) (b : Exp) (c : Exp) → of_exp (e.If a b c) ≡ of_written a ++ (of_written b ++ of_written c)
unfolding B.hidden-the_row-Exp-0 denote.Hole.Carrier.hidden
if-made a b c =
    λ i. (none a) i ++ ((none b) i ++ (none c) i)

lambda-made : (ps : List LambdaParam) (a : Exp) → of_exp (e.Lambda ps a) ≡ flat_map of_lambda_param ps ++ of_written a
unfolding B.hidden-the_row-Exp-0 denote.Hole.Carrier.hidden
lambda-made ps a =
    ap (λ xs. flat_map of_lambda_param ps ++ xs) (none a)

case-made : (a : Exp) (bs : List Branch) → of_exp (e.Case a bs) ≡ of_written a ++ flat_map of_branch bs
unfolding B.hidden-the_row-Exp-0 denote.Hole.Carrier.hidden
case-made a bs =
    let form = e.Case a bs in
    ap₂ (λ xs ys. xs ++ ys) (none a) (branches-are (branches_of form).0 (branches_of form).1 ∙ ap (flat_map of_branch) (items_hidden-the_row-Branch-1 bs))

binary-made : (o : Binary) (a : Exp) (b : Exp) → of_exp (e.Binary o a b) ≡ of_written a ++ of_written b
unfolding B.hidden-the_row-Exp-0 denote.Hole.Carrier.hidden
binary-made o a b =
    ap₂ (λ xs ys. xs ++ ys) (none a) (none b)

remove-made : (a : Exp) (r : Removed) → of_exp (e.Remove a r) ≡ of_written a ++ of_name r.name
unfolding B.hidden-the_row-Exp-0 denote.Hole.Carrier.hidden
remove-made a r =
    ap (λ xs. xs ++ of_name r.name) (none a)

negative-made : (a : Exp) → of_exp (e.Negative a) ≡ of_written a
unfolding B.hidden-the_row-Exp-0 denote.Hole.Carrier.hidden
negative-made a =
    none a

app-made : (a : Exp) (b : Exp) → of_exp (e.App a b) ≡ of_written a ++ of_written b
unfolding B.hidden-the_row-Exp-0 denote.Hole.Carrier.hidden
app-made a b =
    ap₂ (λ xs ys. xs ++ ys) (none a) (none b)

con-app-made : (a : Exp) (c : Con) → of_exp (e.ConApp a c) ≡ of_written a ++ of_con c
unfolding B.hidden-the_row-Exp-0 denote.Hole.Carrier.hidden
con-app-made a c =
    ap (λ xs. xs ++ of_con c) (none a)

project-made : (a : Exp) (n : FieldName) → of_exp (e.Project a n) ≡ of_written a ++ of_name n
unfolding B.hidden-the_row-Exp-0 denote.Hole.Carrier.hidden
project-made a n =
    ap (λ xs. xs ++ of_name n) (none a)

record-made : (fs : List Field) → of_exp (e.Record fs) ≡ flat_map of_value fs
unfolding B.hidden-the_row-Exp-0 denote.Hole.Carrier.hidden
record-made fs =
    let form = e.Record fs in
    values-are (fields_of form).0 (fields_of form).1 ∙ ap (flat_map of_value) (items_hidden-the_row-Field-2 fs)

xml-made : (x : Xml) (ss : List Exp) (ts : List Exp) → of_exp (e.Xml x ss ts) ≡ of_xml x ++ (flat_map of_written ss ++ flat_map of_written ts)
unfolding B.hidden-the_row-Exp-0 denote.Hole.Carrier.hidden
xml-made x ss ts =
    let form = e.Xml x ss ts in
    ap₂ (λ xs ys. of_xml x ++ (xs ++ ys)) (exps-are (exps_of form).0 (exps_of form).1 ∙ ap (flat_map of_written) (items_hidden-the_row-Exp-3 ss)) (exps-are (attributes_of form).0 (attributes_of form).1 ∙ ap (flat_map of_written) (items_hidden-the_row-Exp-3 ts))

let-made : (vs : List LetVal) (a : Exp) → of_exp (e.Let vs a) ≡ flat_map of_val vs ++ of_written a
unfolding B.hidden-the_row-Exp-0 denote.Hole.Carrier.hidden
let-made vs a =
    let form = e.Let vs a in
    ap₂ (λ xs ys. xs ++ ys) (vals-are (vals_of form).0 (vals_of form).1 ∙ ap (flat_map of_val) (items_hidden-the_row-LetVal-4 vs)) (none a)

return-made : (a : Exp) → of_exp (e.Return a) ≡ of_written a
unfolding B.hidden-the_row-Exp-0 denote.Hole.Carrier.hidden
return-made a =
    none a

show-made : (a : Exp) → of_exp (e.Show a) ≡ of_written a
unfolding B.hidden-the_row-Exp-0 denote.Hole.Carrier.hidden
show-made a =
    none a

not-made : (a : Exp) → of_exp (e.Not a) ≡ of_written a
unfolding B.hidden-the_row-Exp-0 denote.Hole.Carrier.hidden
not-made a =
    none a

error-made : (a : Exp) → of_exp (e.Error a) ≡ of_written a
unfolding B.hidden-the_row-Exp-0 denote.Hole.Carrier.hidden
error-made a =
    none a

some-made : (a : Exp) → of_exp (e.Some a) ≡ of_written a
unfolding B.hidden-the_row-Exp-0 denote.Hole.Carrier.hidden
some-made a =
    none a

set-made : (n : DeclName) (a : Exp) → of_exp (e.SetCookie n a) ≡ of_written a
unfolding B.hidden-the_row-Exp-0 denote.Hole.Carrier.hidden
set-made n a =
    none a

dml-made : (c : SqlChange) (es : List Exp) → of_exp (e.Dml c es) ≡ flat_map of_written es
unfolding B.hidden-the_row-Exp-0 denote.Hole.Carrier.hidden
dml-made c es =
    let form = e.Dml c es in
    exps-are (exps_of form).0 (exps_of form).1 ∙ ap (flat_map of_written) (items_hidden-the_row-Exp-3 es)

query-made : (w : QueryWord) (q : SqlQuery) (es : List Exp) → of_exp (e.Query w q es) ≡ of_query q ++ flat_map of_written es
unfolding B.hidden-the_row-Exp-0 denote.Hole.Carrier.hidden
query-made w q es =
    let form = e.Query w q es in
    ap (λ xs. of_query q ++ xs) (exps-are (exps_of form).0 (exps_of form).1 ∙ ap (flat_map of_written) (items_hidden-the_row-Exp-3 es))

each-made : (q : SqlQuery) (es : List Exp) (a : Exp) → of_exp (e.QueryX q es a) ≡ of_query q ++ (flat_map of_written es ++ of_written a)
unfolding B.hidden-the_row-Exp-0 denote.Hole.Carrier.hidden
each-made q es a =
    let form = e.QueryX q es a in
    ap₂ (λ xs ys. of_query q ++ (xs ++ ys)) (exps-are (exps_of form).0 (exps_of form).1 ∙ ap (flat_map of_written) (items_hidden-the_row-Exp-3 es)) (none a)

fold-made : (c : Con) (a : Exp) (b : Exp) (d : Con) → of_exp (e.Fold c a b d) ≡ of_con c ++ (of_written a ++ (of_written b ++ of_con d))
unfolding B.hidden-the_row-Exp-0 denote.Hole.Carrier.hidden
fold-made c a b d =
    ap₂ (λ xs ys. of_con c ++ (xs ++ (ys ++ of_con d))) (none a) (none b)

-- ---- with the parts that are read

pub in-bind : {f : ExpForm} {u : Binder} {a a0 : Exp} {b b0 : Exp} → f ≡ e.Bind u a0 b0 → a ≡ a0 → b ≡ b0 → of_exp f ≡ of_written a ++ of_written b
in-bind {u = u} {a = a} {a0 = a0} {b = b} {b0 = b0} g h0 h1 = ap of_exp (g ∙ (ap (λ z. e.Bind u z b0) (sym h0) ∙ ap (λ z. e.Bind u a z) (sym h1))) ∙ bind-made u a b

pub in-seq : {f : ExpForm} {a a0 : Exp} {b b0 : Exp} → f ≡ e.Seq a0 b0 → a ≡ a0 → b ≡ b0 → of_exp f ≡ of_written a ++ of_written b
in-seq {a = a} {a0 = a0} {b = b} {b0 = b0} g h0 h1 = ap of_exp (g ∙ (ap (λ z. e.Seq z b0) (sym h0) ∙ ap (λ z. e.Seq a z) (sym h1))) ∙ seq-made a b

pub in-if : {f : ExpForm} {a a0 : Exp} {b b0 : Exp} {c c0 : Exp} → f ≡ e.If a0 b0 c0 → a ≡ a0 → b ≡ b0 → c ≡ c0 →
    of_exp f ≡ of_written a ++ (of_written b ++ of_written c)
in-if {a = a} {a0 = a0} {b = b} {b0 = b0} {c = c} {c0 = c0} g h0 h1 h2 = ap of_exp (g ∙ (ap (λ z. e.If z b0 c0) (sym h0) ∙ ap (λ z. e.If a z c0) (sym h1) ∙ ap (λ z. e.If a b z) (sym h2))) ∙ if-made a b c

pub in-lambda : {f : ExpForm} {ps ps0 : List LambdaParam} {a a0 : Exp} → f ≡ e.Lambda ps0 a0 → ps ≡ ps0 → a ≡ a0 →
    of_exp f ≡ flat_map of_lambda_param ps ++ of_written a
in-lambda {ps = ps} {ps0 = ps0} {a = a} {a0 = a0} g h0 h1 = ap of_exp (g ∙ (ap (λ z. e.Lambda z a0) (sym h0) ∙ ap (λ z. e.Lambda ps z) (sym h1))) ∙ lambda-made ps a

pub in-case : {f : ExpForm} {a a0 : Exp} {bs bs0 : List Branch} → f ≡ e.Case a0 bs0 → a ≡ a0 → bs ≡ bs0 → of_exp f ≡ of_written a ++ flat_map of_branch bs
in-case {a = a} {a0 = a0} {bs = bs} {bs0 = bs0} g h0 h1 = ap of_exp (g ∙ (ap (λ z. e.Case z bs0) (sym h0) ∙ ap (λ z. e.Case a z) (sym h1))) ∙ case-made a bs

pub in-binary : {f : ExpForm} {o : Binary} {a a0 : Exp} {b b0 : Exp} → f ≡ e.Binary o a0 b0 → a ≡ a0 → b ≡ b0 → of_exp f ≡ of_written a ++ of_written b
in-binary {o = o} {a = a} {a0 = a0} {b = b} {b0 = b0} g h0 h1 = ap of_exp (g ∙ (ap (λ z. e.Binary o z b0) (sym h0) ∙ ap (λ z. e.Binary o a z) (sym h1))) ∙ binary-made o a b

pub in-remove : {f : ExpForm} {a a0 : Exp} {r : Removed} → f ≡ e.Remove a0 r → a ≡ a0 → of_exp f ≡ of_written a ++ of_name r.name
in-remove {a = a} {a0 = a0} {r = r} g h0 = ap of_exp (g ∙ (ap (λ z. e.Remove z r) (sym h0))) ∙ remove-made a r

pub in-negative : {f : ExpForm} {a a0 : Exp} → f ≡ e.Negative a0 → a ≡ a0 → of_exp f ≡ of_written a
in-negative {a = a} {a0 = a0} g h0 = ap of_exp (g ∙ (ap (λ z. e.Negative z) (sym h0))) ∙ negative-made a

pub in-app : {f : ExpForm} {a a0 : Exp} {b b0 : Exp} → f ≡ e.App a0 b0 → a ≡ a0 → b ≡ b0 → of_exp f ≡ of_written a ++ of_written b
in-app {a = a} {a0 = a0} {b = b} {b0 = b0} g h0 h1 = ap of_exp (g ∙ (ap (λ z. e.App z b0) (sym h0) ∙ ap (λ z. e.App a z) (sym h1))) ∙ app-made a b

pub in-con-app : {f : ExpForm} {a a0 : Exp} {c : Con} → f ≡ e.ConApp a0 c → a ≡ a0 → of_exp f ≡ of_written a ++ of_con c
in-con-app {a = a} {a0 = a0} {c = c} g h0 = ap of_exp (g ∙ (ap (λ z. e.ConApp z c) (sym h0))) ∙ con-app-made a c

pub in-project : {f : ExpForm} {a a0 : Exp} {n : FieldName} → f ≡ e.Project a0 n → a ≡ a0 → of_exp f ≡ of_written a ++ of_name n
in-project {a = a} {a0 = a0} {n = n} g h0 = ap of_exp (g ∙ (ap (λ z. e.Project z n) (sym h0))) ∙ project-made a n

pub in-record : {f : ExpForm} {fs fs0 : List Field} → f ≡ e.Record fs0 → fs ≡ fs0 → of_exp f ≡ flat_map of_value fs
in-record {fs = fs} {fs0 = fs0} g h0 = ap of_exp (g ∙ (ap (λ z. e.Record z) (sym h0))) ∙ record-made fs

pub in-xml : {f : ExpForm} {x : Xml} {ss ss0 : List Exp} {ts ts0 : List Exp} → f ≡ e.Xml x ss0 ts0 → ss ≡ ss0 → ts ≡ ts0 →
    of_exp f ≡ of_xml x ++ (flat_map of_written ss ++ flat_map of_written ts)
in-xml {x = x} {ss = ss} {ss0 = ss0} {ts = ts} {ts0 = ts0} g h0 h1 = ap of_exp (g ∙ (ap (λ z. e.Xml x z ts0) (sym h0) ∙ ap (λ z. e.Xml x ss z) (sym h1))) ∙ xml-made x ss ts

pub in-let : {f : ExpForm} {vs vs0 : List LetVal} {a a0 : Exp} → f ≡ e.Let vs0 a0 → vs ≡ vs0 → a ≡ a0 → of_exp f ≡ flat_map of_val vs ++ of_written a
in-let {vs = vs} {vs0 = vs0} {a = a} {a0 = a0} g h0 h1 = ap of_exp (g ∙ (ap (λ z. e.Let z a0) (sym h0) ∙ ap (λ z. e.Let vs z) (sym h1))) ∙ let-made vs a

pub in-return : {f : ExpForm} {a a0 : Exp} → f ≡ e.Return a0 → a ≡ a0 → of_exp f ≡ of_written a
in-return {a = a} {a0 = a0} g h0 = ap of_exp (g ∙ (ap (λ z. e.Return z) (sym h0))) ∙ return-made a

pub in-show : {f : ExpForm} {a a0 : Exp} → f ≡ e.Show a0 → a ≡ a0 → of_exp f ≡ of_written a
in-show {a = a} {a0 = a0} g h0 = ap of_exp (g ∙ (ap (λ z. e.Show z) (sym h0))) ∙ show-made a

pub in-not : {f : ExpForm} {a a0 : Exp} → f ≡ e.Not a0 → a ≡ a0 → of_exp f ≡ of_written a
in-not {a = a} {a0 = a0} g h0 = ap of_exp (g ∙ (ap (λ z. e.Not z) (sym h0))) ∙ not-made a

pub in-error : {f : ExpForm} {a a0 : Exp} → f ≡ e.Error a0 → a ≡ a0 → of_exp f ≡ of_written a
in-error {a = a} {a0 = a0} g h0 = ap of_exp (g ∙ (ap (λ z. e.Error z) (sym h0))) ∙ error-made a

pub in-some : {f : ExpForm} {a a0 : Exp} → f ≡ e.Some a0 → a ≡ a0 → of_exp f ≡ of_written a
in-some {a = a} {a0 = a0} g h0 = ap of_exp (g ∙ (ap (λ z. e.Some z) (sym h0))) ∙ some-made a

pub in-set : {f : ExpForm} {n : DeclName} {a a0 : Exp} → f ≡ e.SetCookie n a0 → a ≡ a0 → of_exp f ≡ of_written a
in-set {n = n} {a = a} {a0 = a0} g h0 = ap of_exp (g ∙ (ap (λ z. e.SetCookie n z) (sym h0))) ∙ set-made n a

pub in-dml : {f : ExpForm} {c : SqlChange} {es es0 : List Exp} → f ≡ e.Dml c es0 → es ≡ es0 → of_exp f ≡ flat_map of_written es
in-dml {c = c} {es = es} {es0 = es0} g h0 = ap of_exp (g ∙ (ap (λ z. e.Dml c z) (sym h0))) ∙ dml-made c es

pub in-query : {f : ExpForm} {w : QueryWord} {q : SqlQuery} {es es0 : List Exp} → f ≡ e.Query w q es0 → es ≡ es0 →
    of_exp f ≡ of_query q ++ flat_map of_written es
in-query {w = w} {q = q} {es = es} {es0 = es0} g h0 = ap of_exp (g ∙ (ap (λ z. e.Query w q z) (sym h0))) ∙ query-made w q es

pub in-each : {f : ExpForm} {q : SqlQuery} {es es0 : List Exp} {a a0 : Exp} → f ≡ e.QueryX q es0 a0 → es ≡ es0 → a ≡ a0 →
    of_exp f ≡ of_query q ++ (flat_map of_written es ++ of_written a)
in-each {q = q} {es = es} {es0 = es0} {a = a} {a0 = a0} g h0 h1 = ap of_exp (g ∙ (ap (λ z. e.QueryX q z a0) (sym h0) ∙ ap (λ z. e.QueryX q es z) (sym h1))) ∙ each-made q es a

pub in-fold : {f : ExpForm} {c : Con} {a a0 : Exp} {b b0 : Exp} {d : Con} → f ≡ e.Fold c a0 b0 d → a ≡ a0 → b ≡ b0 →
    of_exp f ≡ of_con c ++ (of_written a ++ (of_written b ++ of_con d))
in-fold {c = c} {a = a} {a0 = a0} {b = b} {b0 = b0} {d = d} g h0 h1 = ap of_exp (g ∙ (ap (λ z. e.Fold c z b0 d) (sym h0) ∙ ap (λ z. e.Fold c a z d) (sym h1))) ∙ fold-made c a b d
