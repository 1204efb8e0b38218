-- The names in each form of expression that holds others, over plain lists.
use Rattle.std.proofs.Common.{◌≡◌, ◌<◌, ◌≤◌, ℕ, suc, ◌+◌, ◌-◌, Bool, true, false, ◌||◌, if◌then◌else◌, List, [], ◌∷◌, ◌++◌, flat_map, filter, length, drop, get_or, Option, Some, None, refl, ap, ap₂, sym, ◌∙◌, arith, true≢false}
use Rattle.std.proofs.Common.{drop-cons, add-one}
use Rattle.std.proofs.Math.Bool.{or-false}
use Rattle.std.proofs.lemmas.Bool.{lt-ltb, le-ltb}
use Rattle.std.proofs.lemmas.List.{append-nil}
use Rattle.std.proofs.lemmas.List.Folds.{list_any-append}
use mathlib.Core.Former.{Count}
use denote.Hole.Carrier as Carrier
use Rattle.ur_rows.specs.declared.normal.Label.{Label}
use Rattle.ur_rows.specs.declared.normal.NormalType.{NormalType}
use Rattle.ur_rows.specs.declared.normal.NormalType.TheVariants as ty
use Rattle.ur_rows.specs.declared.normal.Var.{Var}
use Rattle.ur_rows.specs.declared.normal.Normal.{Normal}
use Rattle.ur_rows.specs.declared.normal.Normal.TheVariants as normal
use Rattle.ur_rows.specs.Made.{row}
use Rattle.ur_rows.proofs.Shapes.{option-made, list-made, transaction-made, arrow-made, record-made, form-made, field-made, mapped-made, fn-made}
use Rattle.ur_syntax.specs.declared.kind.Kind.{Kind}
use Rattle.ur_rows.specs.declared.normal.Part.{Part}
use Rattle.ur_rows.specs.declared.normal.Part.TheVariants as part
use Rattle.ur_terms.specs.declared.term.AnswerForm.{AnswerForm}
use Rattle.ur_values.specs.declared.value.Tag.{Tag}
use Rattle.ur_values.specs.declared.value.FieldKind.{FieldKind}
use Rattle.ur_tree.specs.declared.exp.Param.{Param}
use Rattle.ur_tree.specs.declared.exp.Unary.{Unary}
use Rattle.ur_tree.specs.declared.exp.Binary.{Binary}
use Rattle.ur_tree.specs.declared.exp.Branch.{Branch}
use Rattle.ur_tree.specs.declared.exp.FieldExp.{FieldExp}
use Rattle.ur_tree.specs.declared.exp.Exp.{Exp, Row_of-Exp, end_of-Exp, more_of-Exp, Row_of-Branch, end_of-Branch, more_of-Branch, Row_of-FieldExp, end_of-FieldExp, more_of-FieldExp, Row_of-Markup, end_of-Markup, more_of-Markup, items-the_row-Exp, items-the_row-Branch, items-the_row-FieldExp, items-the_row-Markup, items_hidden-the_row-Exp-1, items_hidden-the_row-FieldExp-2, items_hidden-the_row-Branch-3, items_hidden-the_row-Markup-4}
use Rattle.ur_tree.specs.declared.exp.Exp.TheVariants as x
use Rattle.ur_tree.specs.declared.exp.Exp.TheBlock as B
use Rattle.ur_tree.specs.declared.exp.Markup.{Markup}
use Rattle.ur_tree.specs.declared.exp.Markup.TheVariants as m
use Rattle.ur_source.specs.Names.{Name, fixed, outer, in_var, in_label, in_type, in_con, in_row, in_parts, in_part, in_params, fixed_count, acc_count, in_exp, in_exps, in_fields, in_branches, in_markups, in_markup}
use Rattle.ur_unfold_static.specs.declared.sought.Sought.{Sought}
use Rattle.ur_unfold_static.specs.Sought.{is_sought, is_among}
use Rattle.ur_unfold_static.specs.Exps as lists

-- ---- rows of children as lists

pub exps-are : (d n : _) (row : Row_of-Exp n) → in_exps d row ≡ flat_map (in_exp d) (items-the_row-Exp n row)
exps-are d n end_of-Exp = refl
exps-are d n (more_of-Exp e rest) = ap (λ ns. in_exp d e ++ ns) (exps-are d _ rest)

pub fields-are : (d n : _) (row : Row_of-FieldExp n) → in_fields d row ≡ lists.in_fields d (items-the_row-FieldExp n row)
fields-are d n end_of-FieldExp = refl
fields-are d n (more_of-FieldExp l e rest) = ap (λ ns. (in_label l ++ in_exp d e) ++ ns) (fields-are d _ rest)

pub branches-are : (d n : _) (row : Row_of-Branch n) → in_branches d row ≡ lists.in_branches d (items-the_row-Branch n row)
branches-are d n end_of-Branch = refl
branches-are d n (more_of-Branch p e rest) = ap (λ ns. in_exp d e ++ ns) (branches-are d _ rest)

pub markups-are : (d n : _) (row : Row_of-Markup n) → in_markups d row ≡ flat_map (in_markup d) (items-the_row-Markup n row)
markups-are d n end_of-Markup = refl
markups-are d n (more_of-Markup p rest) = ap (λ ns. in_markup d p ++ ns) (markups-are d _ rest)

-- ---- the rows that expressions hold

abbrev exps_of : Exp → (n : Count) × Row_of-Exp n
exps_of (x.Apply' _ f _ row) = (_, row)
exps_of (x.Write' u _ row) = (_, row)
exps_of (x.Ask' how q _ row) = (_, row)
exps_of (x.Each' q _ row _ body) = (_, row)
exps_of _ = (_, end_of-Exp)

abbrev pub fields_of : Exp → (n : Count) × Row_of-FieldExp n
fields_of (x.Record' _ row) = (_, row)
fields_of _ = (_, end_of-FieldExp)

abbrev branches_of : Exp → (n : Count) × Row_of-Branch n
branches_of (x.Case' _ e _ row) = (_, row)
branches_of _ = (_, end_of-Branch)

abbrev markups_of : Exp → (n : Count) × Row_of-Markup n
markups_of (x.Xml' t _ row) = (_, row)
markups_of _ = (_, end_of-Markup)

abbrev args_of : Markup → (n : Count) × Row_of-Exp n
args_of (m.Link' k _ row _ kids) = (_, row)
args_of (m.Submit' k _ row e) = (_, row)
args_of _ = (_, end_of-Exp)

abbrev kids_of : Markup → (n : Count) × Row_of-Markup n
kids_of (m.Element' tag _ row) = (_, row)
kids_of (m.Link' k _ args _ row) = (_, row)
kids_of _ = (_, end_of-Markup)

-- ---- expressions

one : (d : ℕ) (e : Exp) → in_exp d e ++ [] ≡ in_exp d e
one d e = append-nil (in_exp d e)

pub in-Apply : (d : ℕ) (f : Exp) (args : List Exp) → in_exp d (x.Apply f args) ≡ in_exp d f ++ flat_map (in_exp d) args
unfolding B.hidden-the_row-Exp-0 Carrier.hidden
in-Apply d f args =
    let row = exps_of (x.Apply f args) in
    ap₂ (λ (ns ms : List Name). ns ++ ms) (one d f) (exps-are d row.0 row.1 ∙ ap (flat_map (in_exp d)) (items_hidden-the_row-Exp-1 args))

pub in-Lambda : (d : ℕ) (params : List Param) (e : Exp) → in_exp d (x.Lambda params e) ≡ in_params params ++ in_exp (fixed_count params + d) e
unfolding B.hidden-the_row-Exp-0 Carrier.hidden
in-Lambda d params e = ap (λ ns. in_params params ++ ns) (one (fixed_count params + d) e)

pub in-Record : (d : ℕ) (fields : List FieldExp) → in_exp d (x.Record fields) ≡ lists.in_fields d fields
in-Record d fields =
    let row = fields_of (x.Record fields) in
    fields-are d row.0 row.1 ∙ ap (lists.in_fields d) (items_hidden-the_row-FieldExp-2 fields)

pub in-Project : (d : ℕ) (e : Exp) (l : Label) → in_exp d (x.Project e l) ≡ in_exp d e ++ in_label l
unfolding B.hidden-the_row-Exp-0 Carrier.hidden
in-Project d e l = ap (λ ns. ns ++ in_label l) (one d e)

pub in-Cut : (d : ℕ) (e : Exp) (l : Label) → in_exp d (x.Cut e l) ≡ in_exp d e ++ in_label l
unfolding B.hidden-the_row-Exp-0 Carrier.hidden
in-Cut d e l = ap (λ ns. ns ++ in_label l) (one d e)

pub in-Unary : (d : ℕ) (op : Unary) (e : Exp) → in_exp d (x.Unary op e) ≡ in_exp d e
unfolding B.hidden-the_row-Exp-0 Carrier.hidden
in-Unary d op e = one d e

pub in-Binary : (d : ℕ) (op : Binary) (a b : Exp) → in_exp d (x.Binary op a b) ≡ in_exp d a ++ in_exp d b
unfolding B.hidden-the_row-Exp-0 Carrier.hidden
in-Binary d op a b = ap₂ (λ (ns ms : List Name). ns ++ ms) (one d a) (one d b)

pub in-Fail : (d : ℕ) (t : NormalType) (e : Exp) → in_exp d (x.Fail t e) ≡ in_type t ++ in_exp d e
unfolding B.hidden-the_row-Exp-0 Carrier.hidden
in-Fail d t e = ap (λ ns. in_type t ++ ns) (one d e)

pub in-Tagged : (d k : ℕ) (held : Option Exp) → in_exp d (x.Tagged k held) ≡ lists.in_optional d held
unfolding B.hidden-the_row-Exp-0 Carrier.hidden
in-Tagged d k None = refl
in-Tagged d k (Some e) = one d e

pub in-If : (d : ℕ) (c a b : Exp) → in_exp d (x.If c a b) ≡ (in_exp d c ++ in_exp d a) ++ in_exp d b
unfolding B.hidden-the_row-Exp-0 Carrier.hidden
in-If d c a b = ap₂ (λ (ns ms : List Name). ns ++ ms) (ap₂ (λ (ns ms : List Name). ns ++ ms) (one d c) (one d a)) (one d b)

pub in-Case : (d : ℕ) (e : Exp) (bs : List Branch) → in_exp d (x.Case e bs) ≡ in_exp d e ++ lists.in_branches d bs
unfolding B.hidden-the_row-Exp-0 Carrier.hidden
in-Case d e bs =
    let row = branches_of (x.Case e bs) in
    ap₂ (λ (ns ms : List Name). ns ++ ms) (one d e) (branches-are d row.0 row.1 ∙ ap (lists.in_branches d) (items_hidden-the_row-Branch-3 bs))

pub in-Let : (d : ℕ) (t : NormalType) (a b : Exp) → in_exp d (x.Let t a b) ≡ (in_type t ++ in_exp d a) ++ in_exp d b
unfolding B.hidden-the_row-Exp-0 Carrier.hidden
in-Let d t a b = ap₂ (λ (ns ms : List Name). (in_type t ++ ns) ++ ms) (one d a) (one d b)

pub in-Bind : (d : ℕ) (a b : Exp) → in_exp d (x.Bind a b) ≡ in_exp d a ++ in_exp d b
unfolding B.hidden-the_row-Exp-0 Carrier.hidden
in-Bind d a b = ap₂ (λ (ns ms : List Name). ns ++ ms) (one d a) (one d b)

pub in-SetCookie : (d k : ℕ) (e : Exp) → in_exp d (x.SetCookie k e) ≡ in_exp d e
unfolding B.hidden-the_row-Exp-0 Carrier.hidden
in-SetCookie d k e = one d e

pub in-Write : (d u : ℕ) (args : List Exp) → in_exp d (x.Write u args) ≡ flat_map (in_exp d) args
in-Write d u args =
    let row = exps_of (x.Write u args) in
    exps-are d row.0 row.1 ∙ ap (flat_map (in_exp d)) (items_hidden-the_row-Exp-1 args)

pub in-Ask : (d : ℕ) (how : AnswerForm) (q : ℕ) (args : List Exp) → in_exp d (x.Ask how q args) ≡ flat_map (in_exp d) args
in-Ask d how q args =
    let row = exps_of (x.Ask how q args) in
    exps-are d row.0 row.1 ∙ ap (flat_map (in_exp d)) (items_hidden-the_row-Exp-1 args)

pub in-Each : (d q : ℕ) (args : List Exp) (e : Exp) → in_exp d (x.Each q args e) ≡ flat_map (in_exp d) args ++ in_exp d e
unfolding B.hidden-the_row-Exp-0 Carrier.hidden
in-Each d q args e =
    let row = exps_of (x.Each q args e) in
    ap₂ (λ (ns ms : List Name). ns ++ ms) (exps-are d row.0 row.1 ∙ ap (flat_map (in_exp d)) (items_hidden-the_row-Exp-1 args)) (one d e)

pub in-Fold : (d : ℕ) (of : NormalType) (acc : Param) (step start : Exp) (row : List Part)
    → in_exp d (x.Fold of acc step start row) ≡ (((in_type of ++ in_type acc.of) ++ in_exp (acc_count acc.fixed + d) step) ++ in_exp d start) ++ in_row row
unfolding B.hidden-the_row-Exp-0 Carrier.hidden
in-Fold d of acc step start row =
    ap₂ (λ (ns ms : List Name). (((in_type of ++ in_type acc.of) ++ ns) ++ ms) ++ in_row row) (one (acc_count acc.fixed + d) step) (one d start)

pub in-Xml : (d : ℕ) (t : NormalType) (parts : List Markup) → in_exp d (x.Xml t parts) ≡ in_type t ++ flat_map (in_markup d) parts
in-Xml d t parts =
    let row = markups_of (x.Xml t parts) in
    ap (λ ns. in_type t ++ ns) (markups-are d row.0 row.1 ∙ ap (flat_map (in_markup d)) (items_hidden-the_row-Markup-4 parts))

-- ---- parts of XML

pub in-Element : (d : ℕ) (tag : Tag) (kids : List Markup) → in_markup d (m.Element tag kids) ≡ flat_map (in_markup d) kids
in-Element d tag kids =
    let row = kids_of (m.Element tag kids) in
    markups-are d row.0 row.1 ∙ ap (flat_map (in_markup d)) (items_hidden-the_row-Markup-4 kids)

pub in-Link : (d k : ℕ) (args : List Exp) (kids : List Markup) → in_markup d (m.Link k args kids) ≡ flat_map (in_exp d) args ++ flat_map (in_markup d) kids
in-Link d k args kids =
    let row = args_of (m.Link k args kids) in
    let rest = kids_of (m.Link k args kids) in
    ap₂ (λ (ns ms : List Name). ns ++ ms) (exps-are d row.0 row.1 ∙ ap (flat_map (in_exp d)) (items_hidden-the_row-Exp-1 args)) (markups-are d rest.0 rest.1 ∙ ap (flat_map (in_markup d)) (items_hidden-the_row-Markup-4 kids))

pub in-Input : (d : ℕ) (kind : FieldKind) (l : Label) (held : Option Exp) → in_markup d (m.Input kind l held) ≡ in_label l ++ lists.in_optional d held
unfolding B.hidden-the_row-Exp-0 Carrier.hidden
in-Input d kind l None = refl
in-Input d kind l (Some e) = ap (λ ns. in_label l ++ ns) (one d e)

pub in-Submit : (d k : ℕ) (args : List Exp) (held : Option Exp) → in_markup d (m.Submit k args held) ≡ flat_map (in_exp d) args ++ lists.in_optional d held
unfolding B.hidden-the_row-Exp-0 Carrier.hidden
in-Submit d k args None =
    let row = args_of (m.Submit k args None) in
    ap (λ ns. ns ++ []) (exps-are d row.0 row.1 ∙ ap (flat_map (in_exp d)) (items_hidden-the_row-Exp-1 args))
in-Submit d k args (Some e) =
    let row = args_of (m.Submit k args (Some e)) in
    ap₂ (λ (ns ms : List Name). ns ++ ms) (exps-are d row.0 row.1 ∙ ap (flat_map (in_exp d)) (items_hidden-the_row-Exp-1 args)) (one d e)

-- ---- types

pub in-Opt : (t : NormalType) → in_type (ty.Opt t) ≡ in_type t
in-Opt t = ap in_type (option-made t)

pub in-Many : (t : NormalType) → in_type (ty.Many t) ≡ in_type t
in-Many t = ap in_type (list-made t)

pub in-Transaction : (t : NormalType) → in_type (ty.Transaction t) ≡ in_type t
in-Transaction t = ap in_type (transaction-made t)

pub in-Arrow : (a b : NormalType) → in_type (ty.Arrow a b) ≡ in_type a ++ in_type b
in-Arrow a b = ap in_type (arrow-made a b)

parts-are : (r : List Part) → in_parts (row r).1 ≡ in_row r
parts-are [] = refl
parts-are (p ∷ r) = ap (λ ns. in_part p ++ ns) (parts-are r)

pub in-Of_row : (r : List Part) → in_type (ty.Record r) ≡ in_row r
in-Of_row r = ap in_type (record-made r) ∙ parts-are r

pub in-Of_form : (r : List Part) → in_type (ty.Form r) ≡ in_row r
in-Of_form r = ap in_type (form-made r) ∙ parts-are r

pub in-Field : (l : Label) (t : NormalType) → in_part (part.Field l t) ≡ in_label l ++ in_type t
in-Field l t = ap in_part (field-made l t)

pub in-Mapped : (v : Var) (f : NormalType) → in_part (part.Mapped v f) ≡ in_var v ++ in_type f
in-Mapped v f = ap in_part (mapped-made v f)

pub in-Fn : (k : Kind) (c : Normal) → in_con (normal.Fn k c) ≡ in_con c
in-Fn k c = ap in_con (fn-made k c)

-- ---- whether the variable is among them

pub none : (of : Sought) → is_among of [] ≡ false
unfolding is_among
none of = refl

pub both : (of : Sought) (xs ys : List Name) → is_among of (xs ++ ys) ≡ (is_among of xs || is_among of ys)
unfolding is_among
both of xs ys = list_any-append (is_sought of) xs ys

pub alone : (of : Sought) (n : Name) → is_among of (n ∷ []) ≡ is_sought of n
unfolding is_among
alone of n = or-false (is_sought of n)

pub at-here : {A : Type 0} (xs : List A) (i : ℕ) (y : A) → i < length xs → y ≡ get_or xs i y → drop i xs ≡ y ∷ drop (i + 1) xs
at-here xs i y h e = rw (add-one, drop-cons xs i y h) (ap (λ z. z ∷ drop (suc i) xs) (sym e))
