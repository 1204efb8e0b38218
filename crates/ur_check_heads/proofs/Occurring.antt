-- The links, actions and statements in each form of expression that holds others, over plain lists.
use Rattle.std.proofs.Common.{◌≡◌, ℕ, List, [], ◌∷◌, ◌++◌, flat_map, Option, Some, None, refl, ap, ap₂, ◌∙◌}
use Rattle.std.proofs.lemmas.List.{append-nil}
use mathlib.Core.Former.{Count}
use denote.Hole.Carrier as Carrier
use Rattle.ur_rows.specs.declared.normal.Label.{Label}
use Rattle.ur_rows.specs.declared.normal.NormalType.{NormalType}
use Rattle.ur_rows.specs.declared.normal.Part.{Part}
use Rattle.ur_terms.specs.declared.term.AnswerForm.{AnswerForm}
use Rattle.ur_values.specs.declared.value.Tag.{Tag}
use Rattle.ur_values.specs.declared.value.FieldKind.{FieldKind}
use Rattle.ur_tree.specs.declared.exp.Param.{Param}
use Rattle.ur_tree.specs.declared.exp.Unary.{Unary}
use Rattle.ur_tree.specs.declared.exp.Binary.{Binary}
use Rattle.ur_tree.specs.declared.exp.Branch.{Branch}
use Rattle.ur_tree.specs.declared.exp.FieldExp.{FieldExp}
use Rattle.ur_tree.specs.declared.exp.Exp.{Exp, Row_of-Exp, end_of-Exp, more_of-Exp, Row_of-Branch, end_of-Branch, more_of-Branch, Row_of-FieldExp, end_of-FieldExp, more_of-FieldExp, Row_of-Markup, end_of-Markup, more_of-Markup, items-the_row-Exp, items-the_row-Branch, items-the_row-FieldExp, items-the_row-Markup, items_hidden-the_row-Exp-1, items_hidden-the_row-FieldExp-2, items_hidden-the_row-Branch-3, items_hidden-the_row-Markup-4}
use Rattle.ur_tree.specs.declared.exp.Exp.TheVariants as x
use Rattle.ur_tree.specs.declared.exp.Exp.TheBlock as B
use Rattle.ur_tree.specs.declared.exp.Markup.{Markup}
use Rattle.ur_tree.specs.declared.exp.Markup.TheVariants as m
use Rattle.ur_tree.specs.Occurrences.{Occurrence, link, action, site, update, occurrences, occurrences_of, field_occurrences, branch_occurrences, markup_occurrences, part_occurrences}

abbrev pub in_held : Option Exp → List Occurrence
in_held None = []
in_held (Some e) = occurrences e

abbrev pub in_field : FieldExp → List Occurrence
in_field f = occurrences f.of

abbrev pub in_branch : Branch → List Occurrence
in_branch b = occurrences b.body

-- ---- rows of children as lists

exps-are : (n : _) (row : Row_of-Exp n) → occurrences_of row ≡ flat_map occurrences (items-the_row-Exp n row)
exps-are n end_of-Exp = refl
exps-are n (more_of-Exp e rest) = ap (λ os. occurrences e ++ os) (exps-are _ rest)

fields-are : (n : _) (row : Row_of-FieldExp n) → field_occurrences row ≡ flat_map in_field (items-the_row-FieldExp n row)
fields-are n end_of-FieldExp = refl
fields-are n (more_of-FieldExp l e rest) = ap (λ os. occurrences e ++ os) (fields-are _ rest)

branches-are : (n : _) (row : Row_of-Branch n) → branch_occurrences row ≡ flat_map in_branch (items-the_row-Branch n row)
branches-are n end_of-Branch = refl
branches-are n (more_of-Branch p e rest) = ap (λ os. occurrences e ++ os) (branches-are _ rest)

markups-are : (n : _) (row : Row_of-Markup n) → markup_occurrences row ≡ flat_map part_occurrences (items-the_row-Markup n row)
markups-are n end_of-Markup = refl
markups-are n (more_of-Markup p rest) = ap (λ os. part_occurrences p ++ os) (markups-are _ rest)

-- ---- the rows that expressions hold

abbrev exps_of : Exp → (n : Count) × Row_of-Exp n
exps_of (x.Apply' _ f _ row) = (_, row)
exps_of (x.Write' u _ row) = (_, row)
exps_of (x.Ask' how q _ row) = (_, row)
exps_of (x.Each' q _ row _ body) = (_, row)
exps_of _ = (_, end_of-Exp)

abbrev fields_of : Exp → (n : Count) × Row_of-FieldExp n
fields_of (x.Record' _ row) = (_, row)
fields_of _ = (_, end_of-FieldExp)

abbrev branches_of : Exp → (n : Count) × Row_of-Branch n
branches_of (x.Case' _ e _ row) = (_, row)
branches_of _ = (_, end_of-Branch)

abbrev markups_of : Exp → (n : Count) × Row_of-Markup n
markups_of (x.Xml' t _ row) = (_, row)
markups_of _ = (_, end_of-Markup)

abbrev args_of : Markup → (n : Count) × Row_of-Exp n
args_of (m.Link' k _ row _ kids) = (_, row)
args_of (m.Submit' k _ row e) = (_, row)
args_of _ = (_, end_of-Exp)

abbrev kids_of : Markup → (n : Count) × Row_of-Markup n
kids_of (m.Element' tag _ row) = (_, row)
kids_of (m.Link' k _ args _ row) = (_, row)
kids_of _ = (_, end_of-Markup)

-- ---- expressions

one : (e : Exp) → occurrences e ++ [] ≡ occurrences e
one e = append-nil (occurrences e)

abbrev both : List Occurrence → List Occurrence → List Occurrence
both os ps = os ++ ps

pub in-Apply : (f : Exp) (args : List Exp) → occurrences (x.Apply f args) ≡ occurrences f ++ flat_map occurrences args
unfolding B.hidden-the_row-Exp-0 Carrier.hidden
in-Apply f args =
    let row = exps_of (x.Apply f args) in
    ap₂ both (one f) (exps-are row.0 row.1 ∙ ap (flat_map occurrences) (items_hidden-the_row-Exp-1 args))

pub in-Lambda : (params : List Param) (e : Exp) → occurrences (x.Lambda params e) ≡ occurrences e
unfolding B.hidden-the_row-Exp-0 Carrier.hidden
in-Lambda params e = one e

pub in-Record : (fields : List FieldExp) → occurrences (x.Record fields) ≡ flat_map in_field fields
in-Record fields =
    let row = fields_of (x.Record fields) in
    fields-are row.0 row.1 ∙ ap (flat_map in_field) (items_hidden-the_row-FieldExp-2 fields)

pub in-Project : (e : Exp) (l : Label) → occurrences (x.Project e l) ≡ occurrences e
unfolding B.hidden-the_row-Exp-0 Carrier.hidden
in-Project e l = one e

pub in-Cut : (e : Exp) (l : Label) → occurrences (x.Cut e l) ≡ occurrences e
unfolding B.hidden-the_row-Exp-0 Carrier.hidden
in-Cut e l = one e

pub in-Unary : (op : Unary) (e : Exp) → occurrences (x.Unary op e) ≡ occurrences e
unfolding B.hidden-the_row-Exp-0 Carrier.hidden
in-Unary op e = one e

pub in-Binary : (op : Binary) (a b : Exp) → occurrences (x.Binary op a b) ≡ occurrences a ++ occurrences b
unfolding B.hidden-the_row-Exp-0 Carrier.hidden
in-Binary op a b = ap₂ both (one a) (one b)

pub in-Fail : (t : NormalType) (e : Exp) → occurrences (x.Fail t e) ≡ occurrences e
unfolding B.hidden-the_row-Exp-0 Carrier.hidden
in-Fail t e = one e

pub in-Tagged : (k : ℕ) (held : Option Exp) → occurrences (x.Tagged k held) ≡ in_held held
unfolding B.hidden-the_row-Exp-0 Carrier.hidden
in-Tagged k None = refl
in-Tagged k (Some e) = one e

pub in-If : (c a b : Exp) → occurrences (x.If c a b) ≡ occurrences c ++ (occurrences a ++ occurrences b)
unfolding B.hidden-the_row-Exp-0 Carrier.hidden
in-If c a b = ap₂ both (one c) (ap₂ both (one a) (one b))

pub in-Case : (e : Exp) (bs : List Branch) → occurrences (x.Case e bs) ≡ occurrences e ++ flat_map in_branch bs
unfolding B.hidden-the_row-Exp-0 Carrier.hidden
in-Case e bs =
    let row = branches_of (x.Case e bs) in
    ap₂ both (one e) (branches-are row.0 row.1 ∙ ap (flat_map in_branch) (items_hidden-the_row-Branch-3 bs))

pub in-Let : (t : NormalType) (a b : Exp) → occurrences (x.Let t a b) ≡ occurrences a ++ occurrences b
unfolding B.hidden-the_row-Exp-0 Carrier.hidden
in-Let t a b = ap₂ both (one a) (one b)

pub in-Bind : (a b : Exp) → occurrences (x.Bind a b) ≡ occurrences a ++ occurrences b
unfolding B.hidden-the_row-Exp-0 Carrier.hidden
in-Bind a b = ap₂ both (one a) (one b)

pub in-SetCookie : (k : ℕ) (e : Exp) → occurrences (x.SetCookie k e) ≡ occurrences e
unfolding B.hidden-the_row-Exp-0 Carrier.hidden
in-SetCookie k e = one e

pub in-Write : (u : ℕ) (args : List Exp) → occurrences (x.Write u args) ≡ update u ∷ flat_map occurrences args
in-Write u args =
    let row = exps_of (x.Write u args) in
    ap (λ os. update u ∷ os) (exps-are row.0 row.1 ∙ ap (flat_map occurrences) (items_hidden-the_row-Exp-1 args))

pub in-Ask : (how : AnswerForm) (q : ℕ) (args : List Exp) → occurrences (x.Ask how q args) ≡ site q ∷ flat_map occurrences args
in-Ask how q args =
    let row = exps_of (x.Ask how q args) in
    ap (λ os. site q ∷ os) (exps-are row.0 row.1 ∙ ap (flat_map occurrences) (items_hidden-the_row-Exp-1 args))

pub in-Each : (q : ℕ) (args : List Exp) (e : Exp) → occurrences (x.Each q args e) ≡ site q ∷ (flat_map occurrences args ++ occurrences e)
unfolding B.hidden-the_row-Exp-0 Carrier.hidden
in-Each q args e =
    let row = exps_of (x.Each q args e) in
    ap (λ os. site q ∷ os) (ap₂ both (exps-are row.0 row.1 ∙ ap (flat_map occurrences) (items_hidden-the_row-Exp-1 args)) (one e))

pub in-Fold : (of : NormalType) (acc : Param) (step start : Exp) (row : List Part) → occurrences (x.Fold of acc step start row) ≡ occurrences step ++ occurrences start
unfolding B.hidden-the_row-Exp-0 Carrier.hidden
in-Fold of acc step start row = ap₂ both (one step) (one start)

pub in-Xml : (t : NormalType) (parts : List Markup) → occurrences (x.Xml t parts) ≡ flat_map part_occurrences parts
in-Xml t parts =
    let row = markups_of (x.Xml t parts) in
    markups-are row.0 row.1 ∙ ap (flat_map part_occurrences) (items_hidden-the_row-Markup-4 parts)

-- ---- parts of XML

pub in-Element : (tag : Tag) (kids : List Markup) → part_occurrences (m.Element tag kids) ≡ flat_map part_occurrences kids
in-Element tag kids =
    let row = kids_of (m.Element tag kids) in
    markups-are row.0 row.1 ∙ ap (flat_map part_occurrences) (items_hidden-the_row-Markup-4 kids)

pub in-Link : (k : ℕ) (args : List Exp) (kids : List Markup) → part_occurrences (m.Link k args kids) ≡ link k ∷ (flat_map occurrences args ++ flat_map part_occurrences kids)
in-Link k args kids =
    let row = args_of (m.Link k args kids) in
    let rest = kids_of (m.Link k args kids) in
    ap (λ os. link k ∷ os) (ap₂ both (exps-are row.0 row.1 ∙ ap (flat_map occurrences) (items_hidden-the_row-Exp-1 args)) (markups-are rest.0 rest.1 ∙ ap (flat_map part_occurrences) (items_hidden-the_row-Markup-4 kids)))

pub in-Input : (kind : FieldKind) (l : Label) (held : Option Exp) → part_occurrences (m.Input kind l held) ≡ in_held held
unfolding B.hidden-the_row-Exp-0 Carrier.hidden
in-Input kind l None = refl
in-Input kind l (Some e) = one e

pub in-Submit : (k : ℕ) (args : List Exp) (held : Option Exp) → part_occurrences (m.Submit k args held) ≡ action k ∷ (flat_map occurrences args ++ in_held held)
unfolding B.hidden-the_row-Exp-0 Carrier.hidden
in-Submit k args None =
    let row = args_of (m.Submit k args None) in
    ap (λ os. action k ∷ (os ++ [])) (exps-are row.0 row.1 ∙ ap (flat_map occurrences) (items_hidden-the_row-Exp-1 args))
in-Submit k args (Some e) =
    let row = args_of (m.Submit k args (Some e)) in
    ap (λ os. action k ∷ os) (ap₂ both (exps-are row.0 row.1 ∙ ap (flat_map occurrences) (items_hidden-the_row-Exp-1 args)) (one e))
