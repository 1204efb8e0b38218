-- The acts of the expressions that the code matches.
use Rattle.std.proofs.Common.{◌≡◌, refl, ap, ap₂, sym, ◌∙◌, List, [], ◌∷◌, ◌++◌, flat_map, ℕ, ◌≤◌, length, slice_get, Some, None}
use Rattle.std.proofs.lemmas.Option.{slice_get_past, slice_get-map}
use Rattle.std.specs.Option.{option_map}
use mathlib.Core.Former.{Count}
use Rattle.ur_base.specs.declared.refusal.Span.{Span}
use Rattle.ur_syntax.specs.declared.con.Con.{Con}
use Rattle.ur_syntax.specs.declared.con.FieldName.{FieldName}
use Rattle.ur_syntax.specs.declared.sql.DeclName.{DeclName}
use Rattle.ur_syntax.specs.declared.sql.SqlQuery.{SqlQuery}
use Rattle.ur_syntax.specs.declared.sql.SqlChange.{SqlChange}
use Rattle.ur_syntax.specs.declared.xml.Xml.{Xml}
use Rattle.ur_syntax.specs.declared.xml.XmlPart.{XmlPart}
use Rattle.ur_syntax.specs.declared.exp.Binder.{Binder}
use Rattle.ur_syntax.specs.declared.exp.Binary.{Binary}
use Rattle.ur_syntax.specs.declared.exp.QueryWord.{QueryWord}
use Rattle.ur_syntax.specs.declared.exp.Removed.{Removed}
use Rattle.ur_syntax.specs.declared.exp.LambdaParam.{LambdaParam}
use Rattle.ur_syntax.specs.declared.exp.Exp.{Exp}
use Rattle.ur_syntax.specs.declared.exp.Branch.{Branch}
use Rattle.ur_syntax.specs.declared.exp.Field.{Field}
use Rattle.ur_syntax.specs.declared.exp.LetVal.{LetVal}
use Rattle.ur_syntax.specs.declared.exp.ExpForm.{ExpForm, Row_of-Exp, end_of-Exp as alone, more_of-Exp as its, Row_of-Field, end_of-Field, more_of-Field, Row_of-Branch, end_of-Branch, more_of-Branch, Row_of-LetVal, end_of-LetVal, more_of-LetVal, items-the_row-Exp, items-the_row-Field, items-the_row-Branch, items-the_row-LetVal, items_hidden-the_row-Branch-1, items_hidden-the_row-Field-2, items_hidden-the_row-Exp-3, items_hidden-the_row-LetVal-4}
use Rattle.ur_syntax.specs.declared.exp.ExpForm.TheVariants as e
use Rattle.ur_syntax.specs.declared.exp.ExpForm.TheBlock as B
use Rattle.ur_names.specs.Skeletons.{in_query, in_change, in_xml_part}
use Rattle.ur_kinds.specs.Acts.{Act, open_scope, close_scope, local, argument, type_at, row_at, fold_at}
use Rattle.ur_kinds.specs.Exps.{in_label, in_binder, in_lambda_param, in_pat, at_marks, in_exp, in_written_exp, each, in_record, in_branches, in_vals, in_field, in_branch, in_let, each_of}

record-is : (p : Span) (n : _) (row : Row_of-Field n) → in_record p row ≡ flat_map (in_field p) (items-the_row-Field n row)
record-is p n end_of-Field = refl
record-is p n (more_of-Field x q a rest) = ap (λ es. (in_label p x ++ in_exp q a) ++ es) (record-is p _ rest)

branches-are : (n : _) (row : Row_of-Branch n) → in_branches row ≡ flat_map in_branch (items-the_row-Branch n row)
branches-are n end_of-Branch = refl
branches-are n (more_of-Branch x q a rest) = ap (λ es. ((open_scope ∷ []) ++ in_pat x.form ++ in_exp q a ++ close_scope ∷ []) ++ es) (branches-are _ rest)

vals-are : (n : _) (row : Row_of-LetVal n) → in_vals row ≡ flat_map in_let (items-the_row-LetVal n row)
vals-are n end_of-LetVal = refl
vals-are n (more_of-LetVal s x c q a rest) = ap (λ es. ((type_at c ∷ []) ++ in_exp q a ++ local x ∷ []) ++ es) (vals-are _ rest)

each-is : (n : _) (row : Row_of-Exp n) → each row ≡ each_of (items-the_row-Exp n row)
each-is n alone = refl
each-is n (its q a rest) = ap (λ es. in_exp q a ∷ es) (each-is _ rest)

abbrev fields_of : ExpForm → (n : Count) × Row_of-Field n
fields_of (e.Record' _ row) = (_, row)
fields_of _ = (_, end_of-Field)

abbrev branches_of : ExpForm → (n : Count) × Row_of-Branch n
branches_of (e.Case' _ a _ row) = (_, row)
branches_of _ = (_, end_of-Branch)

abbrev vals_of : ExpForm → (n : Count) × Row_of-LetVal n
vals_of (e.Let' _ row _ a) = (_, row)
vals_of _ = (_, end_of-LetVal)

abbrev exps_of : ExpForm → (n : Count) × Row_of-Exp n
exps_of (e.Xml' x _ row _ more) = (_, row)
exps_of (e.Dml' c _ row) = (_, row)
exps_of (e.Query' w q _ row) = (_, row)
exps_of (e.QueryX' q _ row _ a) = (_, row)
exps_of _ = (_, alone)

abbrev attributes_of : ExpForm → (n : Count) × Row_of-Exp n
attributes_of (e.Xml' x _ row _ more) = (_, more)
attributes_of _ = (_, alone)

bind-made : (p : Span) (x : Binder) (a : Exp) (b : Exp) → in_exp p (e.Bind x a b) ≡ in_written_exp a ++ (open_scope ∷ []) ++ in_binder x ++ in_written_exp b ++ close_scope ∷ []
unfolding B.hidden-the_row-Exp-0 denote.Hole.Carrier.hidden
bind-made p x a b = refl

seq-made : (p : Span) (a : Exp) (b : Exp) → in_exp p (e.Seq a b) ≡ in_written_exp a ++ in_written_exp b
unfolding B.hidden-the_row-Exp-0 denote.Hole.Carrier.hidden
seq-made p a b = refl

if-made : (p : Span) (a : Exp) (b : Exp) (c : Exp) → in_exp p (e.If a b c) ≡ in_written_exp a ++ in_written_exp b ++ in_written_exp c
unfolding B.hidden-the_row-Exp-0 denote.Hole.Carrier.hidden
if-made p a b c = refl

lambda-made : (p : Span) (ps : List LambdaParam) (a : Exp) → in_exp p (e.Lambda ps a) ≡ (open_scope ∷ []) ++ flat_map (in_lambda_param p) ps ++ in_written_exp a ++ close_scope ∷ []
unfolding B.hidden-the_row-Exp-0 denote.Hole.Carrier.hidden
lambda-made p ps a = refl

case-made : (p : Span) (a : Exp) (bs : List Branch) → in_exp p (e.Case a bs) ≡ in_written_exp a ++ flat_map in_branch bs
unfolding B.hidden-the_row-Exp-0 denote.Hole.Carrier.hidden
case-made p a bs =
    let form = e.Case a bs in
    ap (λ es. in_written_exp a ++ es) (branches-are (branches_of form).0 (branches_of form).1 ∙ ap (flat_map in_branch) (items_hidden-the_row-Branch-1 bs))

binary-made : (p : Span) (o : Binary) (a : Exp) (b : Exp) → in_exp p (e.Binary o a b) ≡ in_written_exp a ++ in_written_exp b
unfolding B.hidden-the_row-Exp-0 denote.Hole.Carrier.hidden
binary-made p o a b = refl

remove-made : (p : Span) (a : Exp) (r : Removed) → in_exp p (e.Remove a r) ≡ in_written_exp a ++ in_label r.span r.name
unfolding B.hidden-the_row-Exp-0 denote.Hole.Carrier.hidden
remove-made p a r = refl

negative-made : (p : Span) (a : Exp) → in_exp p (e.Negative a) ≡ in_written_exp a
unfolding B.hidden-the_row-Exp-0 denote.Hole.Carrier.hidden
negative-made p a = refl

app-made : (p : Span) (a : Exp) (b : Exp) → in_exp p (e.App a b) ≡ in_written_exp a ++ in_written_exp b
unfolding B.hidden-the_row-Exp-0 denote.Hole.Carrier.hidden
app-made p a b = refl

con-app-made : (p : Span) (a : Exp) (c : Con) → in_exp p (e.ConApp a c) ≡ in_written_exp a ++ argument a.form c ∷ []
unfolding B.hidden-the_row-Exp-0 denote.Hole.Carrier.hidden
con-app-made p a c = refl

project-made : (p : Span) (a : Exp) (x : FieldName) → in_exp p (e.Project a x) ≡ in_written_exp a ++ in_label p x
unfolding B.hidden-the_row-Exp-0 denote.Hole.Carrier.hidden
project-made p a x = refl

record-made : (p : Span) (fs : List Field) → in_exp p (e.Record fs) ≡ flat_map (in_field p) fs
unfolding B.hidden-the_row-Exp-0 denote.Hole.Carrier.hidden
record-made p fs =
    let form = e.Record fs in
    record-is p (fields_of form).0 (fields_of form).1 ∙ ap (flat_map (in_field p)) (items_hidden-the_row-Field-2 fs)

xml-made : (p : Span) (x : Xml) (ss : List Exp) (ts : List Exp) → in_exp p (e.Xml x ss ts) ≡ at_marks (each_of ss) (each_of ts) (flat_map in_xml_part x.parts)
unfolding B.hidden-the_row-Exp-0 denote.Hole.Carrier.hidden
xml-made p x ss ts =
    let form = e.Xml x ss ts in
    ap₂ (λ s t. at_marks s t (flat_map in_xml_part x.parts)) (each-is (exps_of form).0 (exps_of form).1 ∙ ap each_of (items_hidden-the_row-Exp-3 ss)) (each-is (attributes_of form).0 (attributes_of form).1 ∙ ap each_of (items_hidden-the_row-Exp-3 ts))

let-made : (p : Span) (vs : List LetVal) (a : Exp) → in_exp p (e.Let vs a) ≡ (open_scope ∷ []) ++ flat_map in_let vs ++ in_written_exp a ++ close_scope ∷ []
unfolding B.hidden-the_row-Exp-0 denote.Hole.Carrier.hidden
let-made p vs a =
    let form = e.Let vs a in
    ap (λ es. (open_scope ∷ []) ++ es ++ in_written_exp a ++ close_scope ∷ []) (vals-are (vals_of form).0 (vals_of form).1 ∙ ap (flat_map in_let) (items_hidden-the_row-LetVal-4 vs))

return-made : (p : Span) (a : Exp) → in_exp p (e.Return a) ≡ in_written_exp a
unfolding B.hidden-the_row-Exp-0 denote.Hole.Carrier.hidden
return-made p a = refl

show-made : (p : Span) (a : Exp) → in_exp p (e.Show a) ≡ in_written_exp a
unfolding B.hidden-the_row-Exp-0 denote.Hole.Carrier.hidden
show-made p a = refl

not-made : (p : Span) (a : Exp) → in_exp p (e.Not a) ≡ in_written_exp a
unfolding B.hidden-the_row-Exp-0 denote.Hole.Carrier.hidden
not-made p a = refl

error-made : (p : Span) (a : Exp) → in_exp p (e.Error a) ≡ in_written_exp a
unfolding B.hidden-the_row-Exp-0 denote.Hole.Carrier.hidden
error-made p a = refl

some-made : (p : Span) (a : Exp) → in_exp p (e.Some a) ≡ in_written_exp a
unfolding B.hidden-the_row-Exp-0 denote.Hole.Carrier.hidden
some-made p a = refl

set-made : (p : Span) (x : DeclName) (a : Exp) → in_exp p (e.SetCookie x a) ≡ in_written_exp a
unfolding B.hidden-the_row-Exp-0 denote.Hole.Carrier.hidden
set-made p x a = refl

dml-made : (p : Span) (c : SqlChange) (es : List Exp) → in_exp p (e.Dml c es) ≡ at_marks (each_of es) [] (in_change c)
unfolding B.hidden-the_row-Exp-0 denote.Hole.Carrier.hidden
dml-made p c es =
    let form = e.Dml c es in
    ap (λ s. at_marks s [] (in_change c)) (each-is (exps_of form).0 (exps_of form).1 ∙ ap each_of (items_hidden-the_row-Exp-3 es))

query-made : (p : Span) (w : QueryWord) (q : SqlQuery) (es : List Exp) → in_exp p (e.Query w q es) ≡ at_marks (each_of es) [] (in_query q)
unfolding B.hidden-the_row-Exp-0 denote.Hole.Carrier.hidden
query-made p w q es =
    let form = e.Query w q es in
    ap (λ s. at_marks s [] (in_query q)) (each-is (exps_of form).0 (exps_of form).1 ∙ ap each_of (items_hidden-the_row-Exp-3 es))

each-row-made : (p : Span) (q : SqlQuery) (es : List Exp) (a : Exp) → in_exp p (e.QueryX q es a) ≡ at_marks (each_of es) [] (in_query q) ++ in_written_exp a
unfolding B.hidden-the_row-Exp-0 denote.Hole.Carrier.hidden
each-row-made p q es a =
    let form = e.QueryX q es a in
    ap (λ s. at_marks s [] (in_query q) ++ in_written_exp a) (each-is (exps_of form).0 (exps_of form).1 ∙ ap each_of (items_hidden-the_row-Exp-3 es))

fold-made : (p : Span) (c : Con) (a : Exp) (b : Exp) (d : Con) → in_exp p (e.Fold c a b d) ≡ (fold_at c ∷ []) ++ in_written_exp a ++ in_written_exp b ++ row_at d ∷ []
unfolding B.hidden-the_row-Exp-0 denote.Hole.Carrier.hidden
fold-made p c a b d = refl

-- ---- with the parts that are read

pub in-bind : {f : ExpForm} {x : Binder} {a : Exp} {a0 : Exp} {b : Exp} {b0 : Exp} (p : Span) → f ≡ e.Bind x a0 b0 → a ≡ a0 → b ≡ b0 → in_exp p f ≡ in_written_exp a ++ (open_scope ∷ []) ++ in_binder x ++ in_written_exp b ++ close_scope ∷ []
in-bind {x = x} {a = a} {a0 = a0} {b = b} {b0 = b0} p g h0 h1 = ap (in_exp p) (g ∙ (ap (λ z. e.Bind x z b0) (sym h0) ∙ (ap (λ z. e.Bind x a z) (sym h1)))) ∙ bind-made p x a b

pub in-seq : {f : ExpForm} {a : Exp} {a0 : Exp} {b : Exp} {b0 : Exp} (p : Span) → f ≡ e.Seq a0 b0 → a ≡ a0 → b ≡ b0 → in_exp p f ≡ in_written_exp a ++ in_written_exp b
in-seq {a = a} {a0 = a0} {b = b} {b0 = b0} p g h0 h1 = ap (in_exp p) (g ∙ (ap (λ z. e.Seq z b0) (sym h0) ∙ (ap (λ z. e.Seq a z) (sym h1)))) ∙ seq-made p a b

pub in-if : {f : ExpForm} {a : Exp} {a0 : Exp} {b : Exp} {b0 : Exp} {c : Exp} {c0 : Exp} (p : Span) → f ≡ e.If a0 b0 c0 → a ≡ a0 → b ≡ b0 → c ≡ c0 → in_exp p f ≡ in_written_exp a ++ in_written_exp b ++ in_written_exp c
in-if {a = a} {a0 = a0} {b = b} {b0 = b0} {c = c} {c0 = c0} p g h0 h1 h2 = ap (in_exp p) (g ∙ (ap (λ z. e.If z b0 c0) (sym h0) ∙ (ap (λ z. e.If a z c0) (sym h1) ∙ (ap (λ z. e.If a b z) (sym h2))))) ∙ if-made p a b c

pub in-lambda : {f : ExpForm} {ps : List LambdaParam} {ps0 : List LambdaParam} {a : Exp} {a0 : Exp} (p : Span) → f ≡ e.Lambda ps0 a0 → ps ≡ ps0 → a ≡ a0 → in_exp p f ≡ (open_scope ∷ []) ++ flat_map (in_lambda_param p) ps ++ in_written_exp a ++ close_scope ∷ []
in-lambda {ps = ps} {ps0 = ps0} {a = a} {a0 = a0} p g h0 h1 = ap (in_exp p) (g ∙ (ap (λ z. e.Lambda z a0) (sym h0) ∙ (ap (λ z. e.Lambda ps z) (sym h1)))) ∙ lambda-made p ps a

pub in-case : {f : ExpForm} {a : Exp} {a0 : Exp} {bs : List Branch} {bs0 : List Branch} (p : Span) → f ≡ e.Case a0 bs0 → a ≡ a0 → bs ≡ bs0 → in_exp p f ≡ in_written_exp a ++ flat_map in_branch bs
in-case {a = a} {a0 = a0} {bs = bs} {bs0 = bs0} p g h0 h1 = ap (in_exp p) (g ∙ (ap (λ z. e.Case z bs0) (sym h0) ∙ (ap (λ z. e.Case a z) (sym h1)))) ∙ case-made p a bs

pub in-binary : {f : ExpForm} {o : Binary} {a : Exp} {a0 : Exp} {b : Exp} {b0 : Exp} (p : Span) → f ≡ e.Binary o a0 b0 → a ≡ a0 → b ≡ b0 → in_exp p f ≡ in_written_exp a ++ in_written_exp b
in-binary {o = o} {a = a} {a0 = a0} {b = b} {b0 = b0} p g h0 h1 = ap (in_exp p) (g ∙ (ap (λ z. e.Binary o z b0) (sym h0) ∙ (ap (λ z. e.Binary o a z) (sym h1)))) ∙ binary-made p o a b

pub in-remove : {f : ExpForm} {a : Exp} {a0 : Exp} {r : Removed} (p : Span) → f ≡ e.Remove a0 r → a ≡ a0 → in_exp p f ≡ in_written_exp a ++ in_label r.span r.name
in-remove {a = a} {a0 = a0} {r = r} p g h0 = ap (in_exp p) (g ∙ ap (λ z. e.Remove z r) (sym h0)) ∙ remove-made p a r

pub in-negative : {f : ExpForm} {a : Exp} {a0 : Exp} (p : Span) → f ≡ e.Negative a0 → a ≡ a0 → in_exp p f ≡ in_written_exp a
in-negative {a = a} {a0 = a0} p g h0 = ap (in_exp p) (g ∙ ap (λ z. e.Negative z) (sym h0)) ∙ negative-made p a

pub in-app : {f : ExpForm} {a : Exp} {a0 : Exp} {b : Exp} {b0 : Exp} (p : Span) → f ≡ e.App a0 b0 → a ≡ a0 → b ≡ b0 → in_exp p f ≡ in_written_exp a ++ in_written_exp b
in-app {a = a} {a0 = a0} {b = b} {b0 = b0} p g h0 h1 = ap (in_exp p) (g ∙ (ap (λ z. e.App z b0) (sym h0) ∙ (ap (λ z. e.App a z) (sym h1)))) ∙ app-made p a b

pub in-con-app : {f : ExpForm} {a : Exp} {a0 : Exp} {b : Exp} {c : Con} (p : Span) → f ≡ e.ConApp a0 c → a ≡ a0 → b ≡ a0 → in_exp p f ≡ in_written_exp a ++ argument b.form c ∷ []
in-con-app {a = a} {a0 = a0} {b = b} {c = c} p g h i = ap (in_exp p) (g ∙ ap (λ z. e.ConApp z c) (sym h)) ∙ (con-app-made p a c ∙ ap (λ z. in_written_exp a ++ argument z.form c ∷ []) (h ∙ sym i))

pub in-project : {f : ExpForm} {a : Exp} {a0 : Exp} {x : FieldName} (p : Span) → f ≡ e.Project a0 x → a ≡ a0 → in_exp p f ≡ in_written_exp a ++ in_label p x
in-project {a = a} {a0 = a0} {x = x} p g h0 = ap (in_exp p) (g ∙ ap (λ z. e.Project z x) (sym h0)) ∙ project-made p a x

pub in-record : {f : ExpForm} {fs : List Field} {fs0 : List Field} (p : Span) → f ≡ e.Record fs0 → fs ≡ fs0 → in_exp p f ≡ flat_map (in_field p) fs
in-record {fs = fs} {fs0 = fs0} p g h0 = ap (in_exp p) (g ∙ ap (λ z. e.Record z) (sym h0)) ∙ record-made p fs

pub in-xml : {f : ExpForm} {x : Xml} {ss : List Exp} {ss0 : List Exp} {ts : List Exp} {ts0 : List Exp} (p : Span) → f ≡ e.Xml x ss0 ts0 → ss ≡ ss0 → ts ≡ ts0 → in_exp p f ≡ at_marks (each_of ss) (each_of ts) (flat_map in_xml_part x.parts)
in-xml {x = x} {ss = ss} {ss0 = ss0} {ts = ts} {ts0 = ts0} p g h0 h1 = ap (in_exp p) (g ∙ (ap (λ z. e.Xml x z ts0) (sym h0) ∙ (ap (λ z. e.Xml x ss z) (sym h1)))) ∙ xml-made p x ss ts

pub in-let : {f : ExpForm} {vs : List LetVal} {vs0 : List LetVal} {a : Exp} {a0 : Exp} (p : Span) → f ≡ e.Let vs0 a0 → vs ≡ vs0 → a ≡ a0 → in_exp p f ≡ (open_scope ∷ []) ++ flat_map in_let vs ++ in_written_exp a ++ close_scope ∷ []
in-let {vs = vs} {vs0 = vs0} {a = a} {a0 = a0} p g h0 h1 = ap (in_exp p) (g ∙ (ap (λ z. e.Let z a0) (sym h0) ∙ (ap (λ z. e.Let vs z) (sym h1)))) ∙ let-made p vs a

pub in-return : {f : ExpForm} {a : Exp} {a0 : Exp} (p : Span) → f ≡ e.Return a0 → a ≡ a0 → in_exp p f ≡ in_written_exp a
in-return {a = a} {a0 = a0} p g h0 = ap (in_exp p) (g ∙ ap (λ z. e.Return z) (sym h0)) ∙ return-made p a

pub in-show : {f : ExpForm} {a : Exp} {a0 : Exp} (p : Span) → f ≡ e.Show a0 → a ≡ a0 → in_exp p f ≡ in_written_exp a
in-show {a = a} {a0 = a0} p g h0 = ap (in_exp p) (g ∙ ap (λ z. e.Show z) (sym h0)) ∙ show-made p a

pub in-not : {f : ExpForm} {a : Exp} {a0 : Exp} (p : Span) → f ≡ e.Not a0 → a ≡ a0 → in_exp p f ≡ in_written_exp a
in-not {a = a} {a0 = a0} p g h0 = ap (in_exp p) (g ∙ ap (λ z. e.Not z) (sym h0)) ∙ not-made p a

pub in-error : {f : ExpForm} {a : Exp} {a0 : Exp} (p : Span) → f ≡ e.Error a0 → a ≡ a0 → in_exp p f ≡ in_written_exp a
in-error {a = a} {a0 = a0} p g h0 = ap (in_exp p) (g ∙ ap (λ z. e.Error z) (sym h0)) ∙ error-made p a

pub in-some : {f : ExpForm} {a : Exp} {a0 : Exp} (p : Span) → f ≡ e.Some a0 → a ≡ a0 → in_exp p f ≡ in_written_exp a
in-some {a = a} {a0 = a0} p g h0 = ap (in_exp p) (g ∙ ap (λ z. e.Some z) (sym h0)) ∙ some-made p a

pub in-set : {f : ExpForm} {x : DeclName} {a : Exp} {a0 : Exp} (p : Span) → f ≡ e.SetCookie x a0 → a ≡ a0 → in_exp p f ≡ in_written_exp a
in-set {x = x} {a = a} {a0 = a0} p g h0 = ap (in_exp p) (g ∙ ap (λ z. e.SetCookie x z) (sym h0)) ∙ set-made p x a

pub in-dml : {f : ExpForm} {c : SqlChange} {es : List Exp} {es0 : List Exp} (p : Span) → f ≡ e.Dml c es0 → es ≡ es0 → in_exp p f ≡ at_marks (each_of es) [] (in_change c)
in-dml {c = c} {es = es} {es0 = es0} p g h0 = ap (in_exp p) (g ∙ ap (λ z. e.Dml c z) (sym h0)) ∙ dml-made p c es

pub in-query : {f : ExpForm} {w : QueryWord} {q : SqlQuery} {es : List Exp} {es0 : List Exp} (p : Span) → f ≡ e.Query w q es0 → es ≡ es0 → in_exp p f ≡ at_marks (each_of es) [] (in_query q)
in-query {w = w} {q = q} {es = es} {es0 = es0} p g h0 = ap (in_exp p) (g ∙ ap (λ z. e.Query w q z) (sym h0)) ∙ query-made p w q es

pub in-each-row : {f : ExpForm} {q : SqlQuery} {es : List Exp} {es0 : List Exp} {a : Exp} {a0 : Exp} (p : Span) → f ≡ e.QueryX q es0 a0 → es ≡ es0 → a ≡ a0 → in_exp p f ≡ at_marks (each_of es) [] (in_query q) ++ in_written_exp a
in-each-row {q = q} {es = es} {es0 = es0} {a = a} {a0 = a0} p g h0 h1 = ap (in_exp p) (g ∙ (ap (λ z. e.QueryX q z a0) (sym h0) ∙ (ap (λ z. e.QueryX q es z) (sym h1)))) ∙ each-row-made p q es a

pub in-fold : {f : ExpForm} {c : Con} {a : Exp} {a0 : Exp} {b : Exp} {b0 : Exp} {d : Con} (p : Span) → f ≡ e.Fold c a0 b0 d → a ≡ a0 → b ≡ b0 → in_exp p f ≡ (fold_at c ∷ []) ++ in_written_exp a ++ in_written_exp b ++ row_at d ∷ []
in-fold {c = c} {a = a} {a0 = a0} {b = b} {b0 = b0} {d = d} p g h0 h1 = ap (in_exp p) (g ∙ (ap (λ z. e.Fold c z b0 d) (sym h0) ∙ (ap (λ z. e.Fold c a z d) (sym h1)))) ∙ fold-made p c a b d

pub in-xml-parts : {f : ExpForm} {x : Xml} {xs : List XmlPart} {ss ss0 ts ts0 : List Exp} {us : List (List Act)} (p : Span) → f ≡ e.Xml x ss0 ts0 → xs ≡ x.parts → ss ≡ ss0 → ts ≡ ts0 → us ≡ each_of ts →
    in_exp p f ≡ at_marks (each_of ss) us (flat_map in_xml_part xs)
in-xml-parts {ss = ss} p g k h i j = in-xml p g h i ∙ ap₂ (λ us xs. at_marks (each_of ss) us (flat_map in_xml_part xs)) (sym j) (sym k)

-- ---- expressions by number

pub none-there : (es : List Exp) (n : ℕ) → length es ≤ n → slice_get (each_of es) n ≡ None
none-there es n h = slice_get-map in_written_exp es n ∙ ap (option_map in_written_exp) (slice_get_past es n h)
