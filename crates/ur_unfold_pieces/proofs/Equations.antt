-- What is static, form by form.
use Rattle.std.proofs.Common.{◌≡◌, ℕ, ℤ, Bool, List, [], ◌∷◌, ◌++◌, map, Option, None, Some, option_map, refl, ap, ◌∙◌}
use Rattle.std.specs.Prelude.{slice_get}
use denote.Hole.Carrier as Carrier
use Rattle.ur_values.specs.declared.value.Value.TheVariants as v
use Rattle.ur_rows.specs.declared.normal.Label.{Label}
use Rattle.ur_rows.specs.declared.normal.Normal.{Normal}
use Rattle.ur_rows.specs.declared.normal.NormalType.{NormalType}
use Rattle.ur_rows.specs.declared.normal.Part.{Part}
use Rattle.ur_rows.specs.Put.{instance}
use Rattle.ur_terms.specs.declared.term.AnswerForm.{AnswerForm}
use Rattle.ur_tree.specs.declared.exp.Unary.{Unary}
use Rattle.ur_tree.specs.declared.exp.Binary.{Binary}
use Rattle.ur_tree.specs.declared.exp.Binary.TheVariants as binary
use Rattle.ur_tree.specs.declared.exp.Branch.{Branch}
use Rattle.ur_tree.specs.declared.exp.Param.{Param}
use Rattle.ur_tree.specs.declared.exp.Markup.{Markup}
use Rattle.ur_tree.specs.declared.exp.FieldExp.{FieldExp}
use Rattle.ur_tree.specs.declared.exp.Exp.{Exp, Row_of-FieldExp, end_of-FieldExp, more_of-FieldExp, items-the_row-FieldExp, items_hidden-the_row-FieldExp-2}
use Rattle.ur_tree.specs.declared.exp.Exp.TheVariants as x
use Rattle.ur_tree.specs.declared.exp.Exp.TheBlock as B
use Rattle.ur_tree.specs.declared.closed.Static.TheVariants as st
use Rattle.ur_source.specs.Reading.{Names, Cons, label_number, fold_steps}
use Rattle.ur_source.specs.Static.{StaticFields, static_record, static_project, static_cut, static_join, static_with, static_fold, closed_lambda, if_fixed, static_of, statics_of}
use Rattle.ur_unfold_static.specs.Scopes.{Statics}
use Rattle.ur_unfold_static.proofs.Names.{fields_of}

pub static-Int : (names : Names) (vs : Statics) (cs : Cons) (fs : Statics) (i : ℤ) → static_of names vs cs fs (x.Int i) ≡ Some (st.Literal (v.Int i))
static-Int names vs cs fs i = refl

pub static-Str : (names : Names) (vs : Statics) (cs : Cons) (fs : Statics) (s : List ℕ) → static_of names vs cs fs (x.Str s) ≡ Some (st.Literal (v.Str s))
static-Str names vs cs fs s = refl

pub static-Bool : (names : Names) (vs : Statics) (cs : Cons) (fs : Statics) (b : Bool) → static_of names vs cs fs (x.Bool b) ≡ Some (st.Literal (v.Bool b))
static-Bool names vs cs fs b = refl

pub static-Unit : (names : Names) (vs : Statics) (cs : Cons) (fs : Statics) → static_of names vs cs fs x.Unit ≡ Some (static_record [])
static-Unit names vs cs fs = refl

pub static-Fixed : (names : Names) (vs : Statics) (cs : Cons) (fs : Statics) (i : ℕ) → static_of names vs cs fs (x.Fixed i) ≡ slice_get fs i
static-Fixed names vs cs fs i = refl

pub static-Val : (names : Names) (vs : Statics) (cs : Cons) (fs : Statics) (k : ℕ) → static_of names vs cs fs (x.Val k) ≡ slice_get vs k
static-Val names vs cs fs k = refl

pub static-Function : (names : Names) (vs : Statics) (cs : Cons) (fs : Statics) (k : ℕ) (args : List Normal) → static_of names vs cs fs (x.Function k args) ≡ Some (st.Function k (map (instance cs) args))
static-Function names vs cs fs k args = refl

pub static-Lambda : (names : Names) (vs : Statics) (cs : Cons) (fs : Statics) (params : List Param) (e : Exp) → static_of names vs cs fs (x.Lambda params e) ≡ Some (closed_lambda cs fs params e)
unfolding B.hidden-the_row-Exp-0 Carrier.hidden
static-Lambda names vs cs fs params e = refl

pub static-Project : (names : Names) (vs : Statics) (cs : Cons) (fs : Statics) (e : Exp) (l : Label) → static_of names vs cs fs (x.Project e l) ≡ static_project (label_number names cs l) (static_of names vs cs fs e)
unfolding B.hidden-the_row-Exp-0 Carrier.hidden
static-Project names vs cs fs e l = refl

pub static-Cut : (names : Names) (vs : Statics) (cs : Cons) (fs : Statics) (e : Exp) (l : Label) → static_of names vs cs fs (x.Cut e l) ≡ static_cut (label_number names cs l) (static_of names vs cs fs e)
unfolding B.hidden-the_row-Exp-0 Carrier.hidden
static-Cut names vs cs fs e l = refl

pub static-Join : (names : Names) (vs : Statics) (cs : Cons) (fs : Statics) (a b : Exp) → static_of names vs cs fs (x.Binary binary.Join a b) ≡ static_join (static_of names vs cs fs a) (static_of names vs cs fs b)
unfolding B.hidden-the_row-Exp-0 Carrier.hidden
static-Join names vs cs fs a b = refl

pub static-Fold : (names : Names) (vs : Statics) (cs : Cons) (fs : Statics) (of : NormalType) (acc : Param) (step start : Exp) (row : List Part) → static_of names vs cs fs (x.Fold of acc step start row)
    ≡ if_fixed acc.fixed (static_fold (λ k s. static_of names vs (cs ++ k) (s ∷ fs) step) (fold_steps cs row) (static_of names vs cs fs start))
unfolding B.hidden-the_row-Exp-0 Carrier.hidden
static-Fold names vs cs fs of acc step start row = refl

pub static-Variable : (names : Names) (vs : Statics) (cs : Cons) (fs : Statics) (i : ℕ) → static_of names vs cs fs (x.Variable i) ≡ None
static-Variable names vs cs fs i = refl

pub static-Apply : (names : Names) (vs : Statics) (cs : Cons) (fs : Statics) (f : Exp) (args : List Exp) → static_of names vs cs fs (x.Apply f args) ≡ None
static-Apply names vs cs fs f args = refl

pub static-Unary : (names : Names) (vs : Statics) (cs : Cons) (fs : Statics) (op : Unary) (e : Exp) → static_of names vs cs fs (x.Unary op e) ≡ None
static-Unary names vs cs fs op e = refl

pub static-Absent : (names : Names) (vs : Statics) (cs : Cons) (fs : Statics) (t : NormalType) → static_of names vs cs fs (x.Absent t) ≡ None
static-Absent names vs cs fs t = refl

pub static-Empty : (names : Names) (vs : Statics) (cs : Cons) (fs : Statics) (t : NormalType) → static_of names vs cs fs (x.Empty t) ≡ None
static-Empty names vs cs fs t = refl

pub static-Fail : (names : Names) (vs : Statics) (cs : Cons) (fs : Statics) (t : NormalType) (e : Exp) → static_of names vs cs fs (x.Fail t e) ≡ None
static-Fail names vs cs fs t e = refl

pub static-Tagged : (names : Names) (vs : Statics) (cs : Cons) (fs : Statics) (k : ℕ) (held : Option Exp) → static_of names vs cs fs (x.Tagged k held) ≡ None
static-Tagged names vs cs fs k held = refl

pub static-If : (names : Names) (vs : Statics) (cs : Cons) (fs : Statics) (e a b : Exp) → static_of names vs cs fs (x.If e a b) ≡ None
static-If names vs cs fs e a b = refl

pub static-Case : (names : Names) (vs : Statics) (cs : Cons) (fs : Statics) (e : Exp) (bs : List Branch) → static_of names vs cs fs (x.Case e bs) ≡ None
static-Case names vs cs fs e bs = refl

pub static-Let : (names : Names) (vs : Statics) (cs : Cons) (fs : Statics) (t : NormalType) (a b : Exp) → static_of names vs cs fs (x.Let t a b) ≡ None
static-Let names vs cs fs t a b = refl

pub static-Bind : (names : Names) (vs : Statics) (cs : Cons) (fs : Statics) (a b : Exp) → static_of names vs cs fs (x.Bind a b) ≡ None
static-Bind names vs cs fs a b = refl

pub static-Next : (names : Names) (vs : Statics) (cs : Cons) (fs : Statics) (q : ℕ) → static_of names vs cs fs (x.Next q) ≡ None
static-Next names vs cs fs q = refl

pub static-GetCookie : (names : Names) (vs : Statics) (cs : Cons) (fs : Statics) (k : ℕ) → static_of names vs cs fs (x.GetCookie k) ≡ None
static-GetCookie names vs cs fs k = refl

pub static-SetCookie : (names : Names) (vs : Statics) (cs : Cons) (fs : Statics) (k : ℕ) (e : Exp) → static_of names vs cs fs (x.SetCookie k e) ≡ None
static-SetCookie names vs cs fs k e = refl

pub static-Write : (names : Names) (vs : Statics) (cs : Cons) (fs : Statics) (u : ℕ) (args : List Exp) → static_of names vs cs fs (x.Write u args) ≡ None
static-Write names vs cs fs u args = refl

pub static-Ask : (names : Names) (vs : Statics) (cs : Cons) (fs : Statics) (how : AnswerForm) (q : ℕ) (args : List Exp) → static_of names vs cs fs (x.Ask how q args) ≡ None
static-Ask names vs cs fs how q args = refl

pub static-Each : (names : Names) (vs : Statics) (cs : Cons) (fs : Statics) (q : ℕ) (args : List Exp) (body : Exp) → static_of names vs cs fs (x.Each q args body) ≡ None
static-Each names vs cs fs q args body = refl

pub static-Xml : (names : Names) (vs : Statics) (cs : Cons) (fs : Statics) (t : NormalType) (ps : List Markup) → static_of names vs cs fs (x.Xml t ps) ≡ None
static-Xml names vs cs fs t ps = refl

-- an operator that is not `++`
pub static-Binary : (names : Names) (vs : Statics) (cs : Cons) (fs : Statics) (op : Binary) (a b : Exp) → ¬ (op ≡ binary.Join) → static_of names vs cs fs (x.Binary op a b) ≡ None
static-Binary names vs cs fs binary.Add a b h = refl
static-Binary names vs cs fs binary.Sub a b h = refl
static-Binary names vs cs fs binary.Mul a b h = refl
static-Binary names vs cs fs binary.Div a b h = refl
static-Binary names vs cs fs binary.Rem a b h = refl
static-Binary names vs cs fs binary.Append a b h = refl
static-Binary names vs cs fs binary.Equal a b h = refl
static-Binary names vs cs fs binary.Unequal a b h = refl
static-Binary names vs cs fs binary.Less a b h = refl
static-Binary names vs cs fs binary.LessEqual a b h = refl
static-Binary names vs cs fs binary.Greater a b h = refl
static-Binary names vs cs fs binary.GreaterEqual a b h = refl
static-Binary names vs cs fs binary.And a b h = refl
static-Binary names vs cs fs binary.Or a b h = refl
static-Binary names vs cs fs binary.Cons a b h = refl
static-Binary names vs cs fs binary.Join a b h = absurd (h refl)

-- ---- records

abbrev pub fields_static : Names → Statics → Cons → Statics → List FieldExp → Option StaticFields
fields_static names vs cs fs [] = Some []
fields_static names vs cs fs (f ∷ rest) = static_with (label_number names cs f.name) (static_of names vs cs fs f.of) (fields_static names vs cs fs rest)

fields-are : (names : Names) (vs : Statics) (cs : Cons) (fs : Statics) (n : _) (row : Row_of-FieldExp n) → statics_of names vs cs fs row ≡ fields_static names vs cs fs (items-the_row-FieldExp n row)
fields-are names vs cs fs n end_of-FieldExp = refl
fields-are names vs cs fs n (more_of-FieldExp l e rest) = ap (static_with (label_number names cs l) (static_of names vs cs fs e)) (fields-are names vs cs fs _ rest)

pub static-Record : (names : Names) (vs : Statics) (cs : Cons) (fs : Statics) (fields : List FieldExp) → static_of names vs cs fs (x.Record fields) ≡ option_map static_record (fields_static names vs cs fs fields)
static-Record names vs cs fs fields =
    let row = fields_of (x.Record fields) in
    ap (option_map static_record) (fields-are names vs cs fs row.0 row.1 ∙ ap (fields_static names vs cs fs) (items_hidden-the_row-FieldExp-2 fields))

pub ruleset nones = (static-Variable, static-Apply, static-Unary, static-Absent, static-Empty, static-Fail, static-Tagged, static-If, static-Case, static-Let, static-Bind, static-Next, static-GetCookie, static-SetCookie, static-Write, static-Ask, static-Each, static-Xml)
