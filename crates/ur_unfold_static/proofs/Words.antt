-- What is sought is named by a form where one of its parts names it.
use Rattle.std.proofs.Common.{◌≡◌, ◌<◌, ◌≤◌, ℕ, ◌+◌, ◌-◌, Bool, true, false, ◌||◌, if◌then◌else◌, List, [], ◌∷◌, ◌++◌, flat_map, length, drop, get_or, Option, Some, None, refl, ap, ◌∙◌}
use Rattle.std.proofs.lemmas.Bool.{lt-ltb, le-ltb}
use Rattle.ur_rows.specs.declared.normal.Label.{Label}
use Rattle.ur_rows.specs.declared.normal.Label.TheVariants as label
use Rattle.ur_rows.specs.declared.normal.NormalType.{NormalType}
use Rattle.ur_rows.specs.declared.normal.NormalType.TheVariants as ty
use Rattle.ur_rows.specs.declared.normal.Part.{Part}
use Rattle.ur_rows.specs.declared.normal.Part.TheVariants as part
use Rattle.ur_rows.specs.declared.normal.Var.{Var}
use Rattle.ur_rows.specs.declared.normal.Var.TheVariants as var
use Rattle.ur_rows.specs.declared.normal.Normal.{Normal}
use Rattle.ur_rows.specs.declared.normal.Normal.TheVariants as normal
use Rattle.ur_syntax.specs.declared.kind.Kind.{Kind}
use Rattle.ur_terms.specs.declared.term.AnswerForm.{AnswerForm}
use Rattle.ur_values.specs.declared.value.Tag.{Tag}
use Rattle.ur_values.specs.declared.value.FieldKind.{FieldKind}
use Rattle.ur_tree.specs.declared.exp.Param.{Param}
use Rattle.ur_tree.specs.declared.exp.Unary.{Unary}
use Rattle.ur_tree.specs.declared.exp.Binary.{Binary}
use Rattle.ur_tree.specs.declared.exp.Branch.{Branch}
use Rattle.ur_tree.specs.declared.exp.FieldExp.{FieldExp}
use Rattle.ur_tree.specs.declared.exp.Exp.{Exp}
use Rattle.ur_tree.specs.declared.exp.Exp.TheVariants as x
use Rattle.ur_tree.specs.declared.exp.Markup.{Markup}
use Rattle.ur_tree.specs.declared.exp.Markup.TheVariants as m
use Rattle.ur_source.specs.Names.{Name, con, fixed, in_var, in_label, in_type, in_part, in_row, in_con, in_params, in_exp, in_markup, fixed_count, acc_count, outer}
use Rattle.ur_unfold_static.specs.declared.sought.Sought.{Sought}
use Rattle.ur_unfold_static.specs.Sought.{is_sought, is_among}
use Rattle.ur_unfold_static.specs.Exps.{in_field, in_fields, in_branches, in_optional}
use Rattle.ur_unfold_static.specs.Words.{var_names, label_names, type_names, part_names, row_names, con_names, cons_name, params_name, place_names, exp_names, exps_name, optional_names, field_names, fields_name, branches_name, part_of_xml_names, xml_names}
use Rattle.ur_unfold_static.proofs.Names as names
use Rattle.ur_unfold_static.proofs.Names.{none, both, alone, at-here}

three : (of : Sought) (xs ys zs : List Name) → is_among of (xs ++ ys ++ zs) ≡ (is_among of xs || is_among of ys || is_among of zs)
three of xs ys zs = both of (xs ++ ys) zs ∙ ap (λ b. b || is_among of zs) (both of xs ys)

five : (of : Sought) (us vs xs ys zs : List Name)
    → is_among of (us ++ vs ++ xs ++ ys ++ zs) ≡ (is_among of us || is_among of vs || is_among of xs || is_among of ys || is_among of zs)
five of us vs xs ys zs =
    both of (us ++ vs ++ xs ++ ys) zs ∙ ap (λ b. b || is_among of zs) (both of (us ++ vs ++ xs) ys ∙ ap (λ b. b || is_among of ys) (three of us vs xs))

-- ---- in constructors

pub var-Free : (of : Sought) (n : ℕ) → var_names of (var.Free n) ≡ is_sought of (con n)
unfolding var_names
var-Free of n = alone of (con n)

pub var-Bound : (of : Sought) (i : ℕ) → var_names of (var.Bound i) ≡ false
unfolding var_names
var-Bound of i = none of

pub label-Literal : (of : Sought) (a : _) → label_names of (label.Literal a) ≡ false
unfolding label_names
label-Literal of a = none of

pub label-Variable : (of : Sought) (v : Var) → label_names of (label.Variable v) ≡ var_names of v
unfolding label_names var_names
label-Variable of v = refl

pub type-Variable : (of : Sought) (v : Var) → type_names of (ty.Variable v) ≡ var_names of v
unfolding type_names var_names
type-Variable of v = refl

pub type-Opt : (of : Sought) (t : NormalType) → type_names of (ty.Opt t) ≡ type_names of t
unfolding type_names
type-Opt of t = ap (is_among of) (names.in-Opt t)

pub type-Many : (of : Sought) (t : NormalType) → type_names of (ty.Many t) ≡ type_names of t
unfolding type_names
type-Many of t = ap (is_among of) (names.in-Many t)

pub type-Transaction : (of : Sought) (t : NormalType) → type_names of (ty.Transaction t) ≡ type_names of t
unfolding type_names
type-Transaction of t = ap (is_among of) (names.in-Transaction t)

pub type-Arrow : (of : Sought) (a b : NormalType) → type_names of (ty.Arrow a b) ≡ (type_names of a || type_names of b)
unfolding type_names
type-Arrow of a b = ap (is_among of) (names.in-Arrow a b) ∙ both of (in_type a) (in_type b)

pub type-Record : (of : Sought) (r : List Part) → type_names of (ty.Record r) ≡ row_names of r
unfolding type_names row_names
type-Record of r = ap (is_among of) (names.in-Of_row r)

pub type-Form : (of : Sought) (r : List Part) → type_names of (ty.Form r) ≡ row_names of r
unfolding type_names row_names
type-Form of r = ap (is_among of) (names.in-Of_form r)

pub type-Int : (of : Sought) → type_names of ty.Int ≡ false
unfolding type_names
type-Int of = none of

pub type-Str : (of : Sought) → type_names of ty.Str ≡ false
unfolding type_names
type-Str of = none of

pub type-Bool : (of : Sought) → type_names of ty.Bool ≡ false
unfolding type_names
type-Bool of = none of

pub type-Page : (of : Sought) → type_names of ty.Page ≡ false
unfolding type_names
type-Page of = none of

pub type-Xbody : (of : Sought) → type_names of ty.Xbody ≡ false
unfolding type_names
type-Xbody of = none of

pub type-Xtable : (of : Sought) → type_names of ty.Xtable ≡ false
unfolding type_names
type-Xtable of = none of

pub type-Xtr : (of : Sought) → type_names of ty.Xtr ≡ false
unfolding type_names
type-Xtr of = none of

pub type-Datatype : (of : Sought) (k : ℕ) → type_names of (ty.Datatype k) ≡ false
unfolding type_names
type-Datatype of k = none of

pub part-Field : (of : Sought) (l : Label) (t : NormalType) → part_names of (part.Field l t) ≡ (label_names of l || type_names of t)
unfolding part_names label_names type_names
part-Field of l t = ap (is_among of) (names.in-Field l t) ∙ both of (in_label l) (in_type t)

pub part-Piece : (of : Sought) (v : Var) → part_names of (part.Piece v) ≡ var_names of v
unfolding part_names var_names
part-Piece of v = refl

pub part-Mapped : (of : Sought) (v : Var) (f : NormalType) → part_names of (part.Mapped v f) ≡ (var_names of v || type_names of f)
unfolding part_names var_names type_names
part-Mapped of v f = ap (is_among of) (names.in-Mapped v f) ∙ both of (in_var v) (in_type f)

pub con-Type : (of : Sought) (t : NormalType) → con_names of (normal.Type t) ≡ type_names of t
unfolding con_names type_names
con-Type of t = refl

pub con-Name : (of : Sought) (l : Label) → con_names of (normal.Name l) ≡ label_names of l
unfolding con_names label_names
con-Name of l = refl

pub con-Row : (of : Sought) (r : List Part) → con_names of (normal.Row r) ≡ row_names of r
unfolding con_names row_names
con-Row of r = refl

pub con-Fn : (of : Sought) (k : Kind) (c : Normal) → con_names of (normal.Fn k c) ≡ con_names of c
unfolding con_names
con-Fn of k c = ap (is_among of) (names.in-Fn k c)

-- ---- lists, from a place on

pub no-parts : (of : Sought) → row_names of [] ≡ false
unfolding row_names
no-parts of = none of

pub parts-here : (of : Sought) (xs : List Part) (i : ℕ) (y : Part) → i < length xs → y ≡ get_or xs i y → row_names of (drop i xs) ≡ (part_names of y || row_names of (drop (i + 1) xs))
unfolding row_names part_names
parts-here of xs i y h e = ap (λ l. is_among of (flat_map in_part l)) (at-here xs i y h e) ∙ both of (in_part y) (flat_map in_part (drop (i + 1) xs))

pub no-cons : (of : Sought) → cons_name of [] ≡ false
unfolding cons_name
no-cons of = none of

pub cons-here : (of : Sought) (xs : List Normal) (i : ℕ) (y : Normal) → i < length xs → y ≡ get_or xs i y → cons_name of (drop i xs) ≡ (con_names of y || cons_name of (drop (i + 1) xs))
unfolding cons_name con_names
cons-here of xs i y h e = ap (λ l. is_among of (flat_map in_con l)) (at-here xs i y h e) ∙ both of (in_con y) (flat_map in_con (drop (i + 1) xs))

pub no-params : (of : Sought) → params_name of [] ≡ false
unfolding params_name
no-params of = none of

pub params-here : (of : Sought) (xs : List Param) (i : ℕ) (y : Param) → i < length xs → y ≡ get_or xs i y → params_name of (drop i xs) ≡ (type_names of y.of || params_name of (drop (i + 1) xs))
unfolding params_name type_names
params-here of xs i y h e = ap (λ l. is_among of (flat_map (λ p. in_type p.of) l)) (at-here xs i y h e) ∙ both of (in_type y.of) (flat_map (λ p. in_type p.of) (drop (i + 1) xs))

pub no-exps : (of : Sought) (d : ℕ) → exps_name of d [] ≡ false
unfolding exps_name
no-exps of d = none of

pub exps-here : (of : Sought) (d : ℕ) (xs : List Exp) (i : ℕ) (y : Exp) → i < length xs → y ≡ get_or xs i y → exps_name of d (drop i xs) ≡ (exp_names of d y || exps_name of d (drop (i + 1) xs))
unfolding exps_name exp_names
exps-here of d xs i y h e = ap (λ l. is_among of (flat_map (in_exp d) l)) (at-here xs i y h e) ∙ both of (in_exp d y) (flat_map (in_exp d) (drop (i + 1) xs))

pub no-fields : (of : Sought) (d : ℕ) → fields_name of d [] ≡ false
unfolding fields_name
no-fields of d = none of

pub fields-here : (of : Sought) (d : ℕ) (xs : List FieldExp) (i : ℕ) (y : FieldExp) → i < length xs → y ≡ get_or xs i y → fields_name of d (drop i xs) ≡ (field_names of d y || fields_name of d (drop (i + 1) xs))
unfolding fields_name field_names
fields-here of d xs i y h e = ap (λ l. is_among of (flat_map (in_field d) l)) (at-here xs i y h e) ∙ both of (in_field d y) (flat_map (in_field d) (drop (i + 1) xs))

pub no-branches : (of : Sought) (d : ℕ) → branches_name of d [] ≡ false
unfolding branches_name
no-branches of d = none of

pub branches-here : (of : Sought) (d : ℕ) (xs : List Branch) (i : ℕ) (y : Branch) → i < length xs → y ≡ get_or xs i y → branches_name of d (drop i xs) ≡ (exp_names of d y.body || branches_name of d (drop (i + 1) xs))
unfolding branches_name exp_names
branches-here of d xs i y h e = ap (λ l. is_among of (flat_map (λ b. in_exp d b.body) l)) (at-here xs i y h e) ∙ both of (in_exp d y.body) (flat_map (λ b. in_exp d b.body) (drop (i + 1) xs))

pub no-markups : (of : Sought) (d : ℕ) → xml_names of d [] ≡ false
unfolding xml_names
no-markups of d = none of

pub markups-here : (of : Sought) (d : ℕ) (xs : List Markup) (i : ℕ) (y : Markup) → i < length xs → y ≡ get_or xs i y → xml_names of d (drop i xs) ≡ (part_of_xml_names of d y || xml_names of d (drop (i + 1) xs))
unfolding xml_names part_of_xml_names
markups-here of d xs i y h e = ap (λ l. is_among of (flat_map (in_markup d) l)) (at-here xs i y h e) ∙ both of (in_markup d y) (flat_map (in_markup d) (drop (i + 1) xs))

pub field-of : (of : Sought) (d : ℕ) (f : FieldExp) → field_names of d f ≡ (label_names of f.name || exp_names of d f.of)
unfolding field_names label_names exp_names
field-of of d f = both of (in_label f.name) (in_exp d f.of)

pub optional-None : (of : Sought) (d : ℕ) → optional_names of d None ≡ false
unfolding optional_names
optional-None of d = none of

pub optional-Some : (of : Sought) (d : ℕ) (e : Exp) → optional_names of d (Some e) ≡ exp_names of d e
unfolding optional_names exp_names
optional-Some of d e = refl

-- ---- in expressions

pub place-within : (of : Sought) (d i : ℕ) → i < d → place_names of d i ≡ false
unfolding place_names
place-within of d i h = ap (λ b. is_among of (if b then [] else fixed (i - d) ∷ [])) (lt-ltb i d h) ∙ none of

pub place-outside : (of : Sought) (d i : ℕ) → d ≤ i → place_names of d i ≡ is_sought of (fixed (i - d))
unfolding place_names
place-outside of d i h = ap (λ b. is_among of (if b then [] else fixed (i - d) ∷ [])) (le-ltb i d h) ∙ alone of (fixed (i - d))

pub exp-Int : (of : Sought) (d : ℕ) (i : _) → exp_names of d (x.Int i) ≡ false
unfolding exp_names
exp-Int of d i = none of

pub exp-Str : (of : Sought) (d : ℕ) (s : _) → exp_names of d (x.Str s) ≡ false
unfolding exp_names
exp-Str of d s = none of

pub exp-Bool : (of : Sought) (d : ℕ) (b : Bool) → exp_names of d (x.Bool b) ≡ false
unfolding exp_names
exp-Bool of d b = none of

pub exp-Unit : (of : Sought) (d : ℕ) → exp_names of d x.Unit ≡ false
unfolding exp_names
exp-Unit of d = none of

pub exp-Variable : (of : Sought) (d : ℕ) (i : ℕ) → exp_names of d (x.Variable i) ≡ false
unfolding exp_names
exp-Variable of d i = none of

pub exp-Fixed : (of : Sought) (d : ℕ) (i : ℕ) → exp_names of d (x.Fixed i) ≡ place_names of d i
unfolding exp_names place_names
exp-Fixed of d i = refl

pub exp-Val : (of : Sought) (d : ℕ) (k : ℕ) → exp_names of d (x.Val k) ≡ false
unfolding exp_names
exp-Val of d k = none of

pub exp-Next : (of : Sought) (d : ℕ) (q : ℕ) → exp_names of d (x.Next q) ≡ false
unfolding exp_names
exp-Next of d q = none of

pub exp-GetCookie : (of : Sought) (d : ℕ) (k : ℕ) → exp_names of d (x.GetCookie k) ≡ false
unfolding exp_names
exp-GetCookie of d k = none of

pub exp-Function : (of : Sought) (d : ℕ) (k : ℕ) (cons : List Normal) → exp_names of d (x.Function k cons) ≡ cons_name of cons
unfolding exp_names cons_name
exp-Function of d k cons = refl

pub exp-Absent : (of : Sought) (d : ℕ) (t : NormalType) → exp_names of d (x.Absent t) ≡ type_names of t
unfolding exp_names type_names
exp-Absent of d t = refl

pub exp-Empty : (of : Sought) (d : ℕ) (t : NormalType) → exp_names of d (x.Empty t) ≡ type_names of t
unfolding exp_names type_names
exp-Empty of d t = refl

pub exp-Apply : (of : Sought) (d : ℕ) (f : Exp) (args : List Exp) → exp_names of d (x.Apply f args) ≡ (exp_names of d f || exps_name of d args)
unfolding exp_names exps_name
exp-Apply of d f args = ap (is_among of) (names.in-Apply d f args) ∙ both of (in_exp d f) (flat_map (in_exp d) args)

pub exp-Lambda : (of : Sought) (d : ℕ) (params : List Param) (e : Exp) → exp_names of d (x.Lambda params e) ≡ (params_name of params || exp_names of (fixed_count params + d) e)
unfolding exp_names params_name
exp-Lambda of d params e = ap (is_among of) (names.in-Lambda d params e) ∙ both of (in_params params) (in_exp (fixed_count params + d) e)

pub exp-Record : (of : Sought) (d : ℕ) (fields : List FieldExp) → exp_names of d (x.Record fields) ≡ fields_name of d fields
unfolding exp_names fields_name
exp-Record of d fields = ap (is_among of) (names.in-Record d fields)

pub exp-Project : (of : Sought) (d : ℕ) (e : Exp) (l : Label) → exp_names of d (x.Project e l) ≡ (exp_names of d e || label_names of l)
unfolding exp_names label_names
exp-Project of d e l = ap (is_among of) (names.in-Project d e l) ∙ both of (in_exp d e) (in_label l)

pub exp-Cut : (of : Sought) (d : ℕ) (e : Exp) (l : Label) → exp_names of d (x.Cut e l) ≡ (exp_names of d e || label_names of l)
unfolding exp_names label_names
exp-Cut of d e l = ap (is_among of) (names.in-Cut d e l) ∙ both of (in_exp d e) (in_label l)

pub exp-Unary : (of : Sought) (d : ℕ) (op : Unary) (e : Exp) → exp_names of d (x.Unary op e) ≡ exp_names of d e
unfolding exp_names
exp-Unary of d op e = ap (is_among of) (names.in-Unary d op e)

pub exp-Binary : (of : Sought) (d : ℕ) (op : Binary) (a b : Exp) → exp_names of d (x.Binary op a b) ≡ (exp_names of d a || exp_names of d b)
unfolding exp_names
exp-Binary of d op a b = ap (is_among of) (names.in-Binary d op a b) ∙ both of (in_exp d a) (in_exp d b)

pub exp-Fail : (of : Sought) (d : ℕ) (t : NormalType) (e : Exp) → exp_names of d (x.Fail t e) ≡ (type_names of t || exp_names of d e)
unfolding exp_names type_names
exp-Fail of d t e = ap (is_among of) (names.in-Fail d t e) ∙ both of (in_type t) (in_exp d e)

pub exp-Tagged : (of : Sought) (d : ℕ) (k : ℕ) (held : Option Exp) → exp_names of d (x.Tagged k held) ≡ optional_names of d held
unfolding exp_names optional_names
exp-Tagged of d k held = ap (is_among of) (names.in-Tagged d k held)

pub exp-If : (of : Sought) (d : ℕ) (c a b : Exp) → exp_names of d (x.If c a b) ≡ (exp_names of d c || exp_names of d a || exp_names of d b)
unfolding exp_names
exp-If of d c a b = ap (is_among of) (names.in-If d c a b) ∙ three of (in_exp d c) (in_exp d a) (in_exp d b)

pub exp-Case : (of : Sought) (d : ℕ) (e : Exp) (bs : List Branch) → exp_names of d (x.Case e bs) ≡ (exp_names of d e || branches_name of d bs)
unfolding exp_names branches_name
exp-Case of d e bs = ap (is_among of) (names.in-Case d e bs) ∙ both of (in_exp d e) (in_branches d bs)

pub exp-Let : (of : Sought) (d : ℕ) (t : NormalType) (a b : Exp) → exp_names of d (x.Let t a b) ≡ (type_names of t || exp_names of d a || exp_names of d b)
unfolding exp_names type_names
exp-Let of d t a b = ap (is_among of) (names.in-Let d t a b) ∙ three of (in_type t) (in_exp d a) (in_exp d b)

pub exp-Bind : (of : Sought) (d : ℕ) (a b : Exp) → exp_names of d (x.Bind a b) ≡ (exp_names of d a || exp_names of d b)
unfolding exp_names
exp-Bind of d a b = ap (is_among of) (names.in-Bind d a b) ∙ both of (in_exp d a) (in_exp d b)

pub exp-SetCookie : (of : Sought) (d : ℕ) (k : ℕ) (e : Exp) → exp_names of d (x.SetCookie k e) ≡ exp_names of d e
unfolding exp_names
exp-SetCookie of d k e = ap (is_among of) (names.in-SetCookie d k e)

pub exp-Write : (of : Sought) (d : ℕ) (u : ℕ) (args : List Exp) → exp_names of d (x.Write u args) ≡ exps_name of d args
unfolding exp_names exps_name
exp-Write of d u args = ap (is_among of) (names.in-Write d u args)

pub exp-Ask : (of : Sought) (d : ℕ) (how : AnswerForm) (q : ℕ) (args : List Exp) → exp_names of d (x.Ask how q args) ≡ exps_name of d args
unfolding exp_names exps_name
exp-Ask of d how q args = ap (is_among of) (names.in-Ask d how q args)

pub exp-Each : (of : Sought) (d : ℕ) (q : ℕ) (args : List Exp) (e : Exp) → exp_names of d (x.Each q args e) ≡ (exps_name of d args || exp_names of d e)
unfolding exp_names exps_name
exp-Each of d q args e = ap (is_among of) (names.in-Each d q args e) ∙ both of (flat_map (in_exp d) args) (in_exp d e)

pub exp-Fold : (of : Sought) (d : ℕ) (rows : NormalType) (acc : Param) (step start : Exp) (row : List Part) → exp_names of d (x.Fold rows acc step start row) ≡ (type_names of rows || type_names of acc.of || exp_names of (acc_count acc.fixed + d) step || exp_names of d start || row_names of row)
unfolding exp_names type_names row_names
exp-Fold of d rows acc step start row = ap (is_among of) (names.in-Fold d rows acc step start row) ∙ five of (in_type rows) (in_type acc.of) (in_exp (acc_count acc.fixed + d) step) (in_exp d start) (in_row row)

pub exp-Xml : (of : Sought) (d : ℕ) (t : NormalType) (parts : List Markup) → exp_names of d (x.Xml t parts) ≡ (type_names of t || xml_names of d parts)
unfolding exp_names type_names xml_names
exp-Xml of d t parts = ap (is_among of) (names.in-Xml d t parts) ∙ both of (in_type t) (flat_map (in_markup d) parts)

-- ---- in parts of XML

pub xml-Text : (of : Sought) (d : ℕ) (t : _) → part_of_xml_names of d (m.Text t) ≡ false
unfolding part_of_xml_names
xml-Text of d t = none of

pub xml-Shown : (of : Sought) (d : ℕ) (e : Exp) → part_of_xml_names of d (m.Shown e) ≡ exp_names of d e
unfolding part_of_xml_names exp_names
xml-Shown of d e = refl

pub xml-Splice : (of : Sought) (d : ℕ) (e : Exp) → part_of_xml_names of d (m.Splice e) ≡ exp_names of d e
unfolding part_of_xml_names exp_names
xml-Splice of d e = refl

pub xml-Element : (of : Sought) (d : ℕ) (tag : Tag) (kids : List Markup) → part_of_xml_names of d (m.Element tag kids) ≡ xml_names of d kids
unfolding part_of_xml_names xml_names
xml-Element of d tag kids = ap (is_among of) (names.in-Element d tag kids)

pub xml-Link : (of : Sought) (d : ℕ) (k : ℕ) (args : List Exp) (kids : List Markup) → part_of_xml_names of d (m.Link k args kids) ≡ (exps_name of d args || xml_names of d kids)
unfolding part_of_xml_names exps_name xml_names
xml-Link of d k args kids = ap (is_among of) (names.in-Link d k args kids) ∙ both of (flat_map (in_exp d) args) (flat_map (in_markup d) kids)

pub xml-Input : (of : Sought) (d : ℕ) (kind : FieldKind) (l : Label) (held : Option Exp) → part_of_xml_names of d (m.Input kind l held) ≡ (label_names of l || optional_names of d held)
unfolding part_of_xml_names label_names optional_names
xml-Input of d kind l held = ap (is_among of) (names.in-Input d kind l held) ∙ both of (in_label l) (in_optional d held)

pub xml-Submit : (of : Sought) (d : ℕ) (k : ℕ) (args : List Exp) (held : Option Exp) → part_of_xml_names of d (m.Submit k args held) ≡ (exps_name of d args || optional_names of d held)
unfolding part_of_xml_names exps_name optional_names
xml-Submit of d k args held = ap (is_among of) (names.in-Submit d k args held) ∙ both of (flat_map (in_exp d) args) (in_optional d held)

pub ruleset in_types = (var-Free, var-Bound, label-Literal, label-Variable, type-Variable, type-Opt, type-Many, type-Transaction, type-Arrow, type-Record, type-Form, type-Int, type-Str, type-Bool, type-Page, type-Xbody, type-Xtable, type-Xtr, type-Datatype, part-Field, part-Piece, part-Mapped, con-Type, con-Name, con-Row, con-Fn, no-parts, parts-here, no-cons, cons-here, no-params, params-here)

pub ruleset in_forms = (exp-Int, exp-Str, exp-Bool, exp-Unit, exp-Variable, exp-Fixed, exp-Val, exp-Next, exp-GetCookie, exp-Function, exp-Absent, exp-Empty, exp-Apply, exp-Lambda, exp-Record, exp-Project, exp-Cut, exp-Unary, exp-Binary, exp-Fail, exp-Tagged, exp-If, exp-Case, exp-Let, exp-Bind, exp-SetCookie, exp-Write, exp-Ask, exp-Each, exp-Fold, exp-Xml)

pub ruleset in_parts_of_xml = (xml-Text, xml-Shown, xml-Splice, xml-Element, xml-Link, xml-Input, xml-Submit)

pub ruleset in_lists = (no-exps, exps-here, no-fields, fields-here, no-branches, branches-here, no-markups, markups-here, field-of, optional-None, optional-Some)
