-- What is computed statically, by form.
use Rattle.std.proofs.Common.{◌≡◌, ◌<◌, ℕ, ◌+◌, Bool, true, false, not, ◌||◌, List, [], length, drop, get_or, Option, refl, ap, ◌∙◌}
use Rattle.std.proofs.Common.{slice_get}
use mathlib.Core.Former.{Count}
use denote.Hole.Carrier as Carrier
use Rattle.ur_rows.specs.declared.normal.Label.{Label}
use Rattle.ur_rows.specs.declared.normal.Normal.{Normal}
use Rattle.ur_rows.specs.declared.normal.NormalType.{NormalType}
use Rattle.ur_rows.specs.declared.normal.Part.{Part}
use Rattle.ur_terms.specs.declared.term.AnswerForm.{AnswerForm}
use Rattle.ur_tree.specs.declared.exp.Unary.{Unary}
use Rattle.ur_tree.specs.declared.exp.Binary.{Binary}
use Rattle.ur_tree.specs.declared.exp.Branch.{Branch}
use Rattle.ur_tree.specs.declared.exp.Param.{Param}
use Rattle.ur_tree.specs.declared.exp.Markup.{Markup}
use Rattle.ur_tree.specs.declared.exp.FieldExp.{FieldExp}
use Rattle.ur_tree.specs.declared.exp.Exp.{Exp, Row_of-FieldExp, end_of-FieldExp, more_of-FieldExp, items-the_row-FieldExp, items_hidden-the_row-FieldExp-2}
use Rattle.ur_tree.specs.declared.exp.Exp.TheVariants as x
use Rattle.ur_tree.specs.declared.exp.Exp.TheBlock as B
use Rattle.ur_tree.specs.declared.typed.Function.{Function}
use Rattle.ur_source.specs.Items.{is_constant}
use Rattle.ur_source.specs.Static.{names_static, some_names_static}
use Rattle.ur_unfold_static.specs.Exps.{some_field_names}
use Rattle.ur_unfold_static.specs.Words.{constant_at, is_computed, is_one_computed}
use Rattle.ur_unfold_static.proofs.Names.{at-here, fields_of}

fields-are : (c : ℕ → Bool) (n : _) (row : Row_of-FieldExp n) → some_names_static c row ≡ some_field_names c (items-the_row-FieldExp n row)
fields-are c n end_of-FieldExp = refl
fields-are c n (more_of-FieldExp l e rest) = ap (λ b. names_static c e || b) (fields-are c _ rest)

pub computed-Fixed : (fs : List Function) (i : ℕ) → is_computed fs (x.Fixed i) ≡ true
unfolding is_computed
computed-Fixed fs i = refl

pub computed-Val : (fs : List Function) (k : ℕ) → is_computed fs (x.Val k) ≡ true
unfolding is_computed
computed-Val fs k = refl

pub computed-Function : (fs : List Function) (k : ℕ) (cons : List Normal) → is_computed fs (x.Function k cons) ≡ not (constant_at fs k)
unfolding is_computed constant_at
computed-Function fs k cons = refl

pub computed-Record : (fs : List Function) (fields : List FieldExp) → is_computed fs (x.Record fields) ≡ is_one_computed fs fields
unfolding is_computed is_one_computed
computed-Record fs fields =
    let row = fields_of (x.Record fields) in
    fields-are (λ k. is_constant (slice_get fs k)) row.0 row.1 ∙ ap (some_field_names (λ k. is_constant (slice_get fs k))) (items_hidden-the_row-FieldExp-2 fields)

pub computed-Project : (fs : List Function) (e : Exp) (l : Label) → is_computed fs (x.Project e l) ≡ is_computed fs e
unfolding is_computed B.hidden-the_row-Exp-0 Carrier.hidden
computed-Project fs e l = refl

pub computed-Cut : (fs : List Function) (e : Exp) (l : Label) → is_computed fs (x.Cut e l) ≡ is_computed fs e
unfolding is_computed B.hidden-the_row-Exp-0 Carrier.hidden
computed-Cut fs e l = refl

pub computed-Binary : (fs : List Function) (op : Binary) (a b : Exp) → is_computed fs (x.Binary op a b) ≡ (is_computed fs a || is_computed fs b)
unfolding is_computed B.hidden-the_row-Exp-0 Carrier.hidden
computed-Binary fs op a b = refl

pub computed-Int : (fs : List Function) (i : _) → is_computed fs (x.Int i) ≡ false
unfolding is_computed
computed-Int fs i = refl

pub computed-Str : (fs : List Function) (s : _) → is_computed fs (x.Str s) ≡ false
unfolding is_computed
computed-Str fs s = refl

pub computed-Bool : (fs : List Function) (b : Bool) → is_computed fs (x.Bool b) ≡ false
unfolding is_computed
computed-Bool fs b = refl

pub computed-Unit : (fs : List Function) → is_computed fs x.Unit ≡ false
unfolding is_computed
computed-Unit fs = refl

pub computed-Variable : (fs : List Function) (i : ℕ) → is_computed fs (x.Variable i) ≡ false
unfolding is_computed
computed-Variable fs i = refl

pub computed-Apply : (fs : List Function) (f : Exp) (args : List Exp) → is_computed fs (x.Apply f args) ≡ false
unfolding is_computed
computed-Apply fs f args = refl

pub computed-Unary : (fs : List Function) (op : Unary) (e : Exp) → is_computed fs (x.Unary op e) ≡ false
unfolding is_computed
computed-Unary fs op e = refl

pub computed-Absent : (fs : List Function) (t : NormalType) → is_computed fs (x.Absent t) ≡ false
unfolding is_computed
computed-Absent fs t = refl

pub computed-Empty : (fs : List Function) (t : NormalType) → is_computed fs (x.Empty t) ≡ false
unfolding is_computed
computed-Empty fs t = refl

pub computed-Fail : (fs : List Function) (t : NormalType) (e : Exp) → is_computed fs (x.Fail t e) ≡ false
unfolding is_computed
computed-Fail fs t e = refl

pub computed-Tagged : (fs : List Function) (k : ℕ) (held : Option Exp) → is_computed fs (x.Tagged k held) ≡ false
unfolding is_computed
computed-Tagged fs k held = refl

pub computed-If : (fs : List Function) (c a b : Exp) → is_computed fs (x.If c a b) ≡ false
unfolding is_computed
computed-If fs c a b = refl

pub computed-Case : (fs : List Function) (e : Exp) (bs : List Branch) → is_computed fs (x.Case e bs) ≡ false
unfolding is_computed
computed-Case fs e bs = refl

pub computed-Let : (fs : List Function) (t : NormalType) (a b : Exp) → is_computed fs (x.Let t a b) ≡ false
unfolding is_computed
computed-Let fs t a b = refl

pub computed-Bind : (fs : List Function) (a b : Exp) → is_computed fs (x.Bind a b) ≡ false
unfolding is_computed
computed-Bind fs a b = refl

pub computed-Next : (fs : List Function) (q : ℕ) → is_computed fs (x.Next q) ≡ false
unfolding is_computed
computed-Next fs q = refl

pub computed-GetCookie : (fs : List Function) (k : ℕ) → is_computed fs (x.GetCookie k) ≡ false
unfolding is_computed
computed-GetCookie fs k = refl

pub computed-SetCookie : (fs : List Function) (k : ℕ) (e : Exp) → is_computed fs (x.SetCookie k e) ≡ false
unfolding is_computed
computed-SetCookie fs k e = refl

pub computed-Write : (fs : List Function) (u : ℕ) (args : List Exp) → is_computed fs (x.Write u args) ≡ false
unfolding is_computed
computed-Write fs u args = refl

pub computed-Ask : (fs : List Function) (how : AnswerForm) (q : ℕ) (args : List Exp) → is_computed fs (x.Ask how q args) ≡ false
unfolding is_computed
computed-Ask fs how q args = refl

pub computed-Each : (fs : List Function) (q : ℕ) (args : List Exp) (e : Exp) → is_computed fs (x.Each q args e) ≡ false
unfolding is_computed
computed-Each fs q args e = refl

pub computed-Xml : (fs : List Function) (t : NormalType) (parts : List Markup) → is_computed fs (x.Xml t parts) ≡ false
unfolding is_computed
computed-Xml fs t parts = refl

pub computed-Lambda : (fs : List Function) (params : List Param) (e : Exp) → is_computed fs (x.Lambda params e) ≡ true
unfolding is_computed
computed-Lambda fs params e = refl

pub computed-Fold : (fs : List Function) (rows : NormalType) (acc : Param) (step start : Exp) (row : List Part) → is_computed fs (x.Fold rows acc step start row) ≡ true
unfolding is_computed
computed-Fold fs rows acc step start row = refl

pub none-computed : (fs : List Function) → is_one_computed fs [] ≡ false
unfolding is_one_computed
none-computed fs = refl

pub computed-here : (fs : List Function) (xs : List FieldExp) (i : ℕ) (y : FieldExp) → i < length xs → y ≡ get_or xs i y
    → is_one_computed fs (drop i xs) ≡ (is_computed fs y.of || is_one_computed fs (drop (i + 1) xs))
unfolding is_one_computed is_computed
computed-here fs xs i y h e = ap (some_field_names (λ k. is_constant (slice_get fs k))) (at-here xs i y h e)

pub ruleset computed = (computed-Int, computed-Str, computed-Bool, computed-Unit, computed-Variable, computed-Apply, computed-Unary, computed-Absent, computed-Empty, computed-Fail, computed-Tagged, computed-If, computed-Case, computed-Let, computed-Bind, computed-Next, computed-GetCookie, computed-SetCookie, computed-Write, computed-Ask, computed-Each, computed-Xml, computed-Lambda, computed-Fold, computed-Fixed, computed-Val, computed-Function, computed-Record, computed-Project, computed-Cut, computed-Binary, none-computed, computed-here)
