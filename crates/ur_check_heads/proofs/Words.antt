-- What links and actions mark in a form is what its parts mark, one after another.
use Rattle.std.proofs.Common.{◌≡◌, ◌<◌, ◌≤◌, ℕ, ◌+◌, Bool, List, [], ◌∷◌, ◌++◌, flat_map, length, drop, get_or, Option, Some, None, refl, ap, sym, ◌∙◌}
use Rattle.ur_rows.specs.declared.normal.Label.{Label}
use Rattle.ur_rows.specs.declared.normal.NormalType.{NormalType}
use Rattle.ur_rows.specs.declared.normal.Normal.{Normal}
use Rattle.ur_rows.specs.declared.normal.Part.{Part}
use Rattle.ur_terms.specs.declared.term.AnswerForm.{AnswerForm}
use Rattle.ur_values.specs.declared.value.Tag.{Tag}
use Rattle.ur_values.specs.declared.value.FieldKind.{FieldKind}
use Rattle.ur_tree.specs.declared.exp.Param.{Param}
use Rattle.ur_tree.specs.declared.exp.Unary.{Unary}
use Rattle.ur_tree.specs.declared.exp.Binary.{Binary}
use Rattle.ur_tree.specs.declared.exp.Branch.{Branch}
use Rattle.ur_tree.specs.declared.exp.FieldExp.{FieldExp}
use Rattle.ur_tree.specs.declared.exp.Exp.{Exp}
use Rattle.ur_tree.specs.declared.exp.Exp.TheVariants as x
use Rattle.ur_tree.specs.declared.exp.Markup.{Markup}
use Rattle.ur_tree.specs.declared.exp.Markup.TheVariants as m
use Rattle.ur_tree.specs.Occurrences.{Occurrence, occurrences, part_occurrences}
use Rattle.ur_check_scopes.proofs.Loops.{drop-here, drop-none, left-end}
use Rattle.ur_check_heads.specs.declared.aims.Aims.{Aims}
use Rattle.ur_check_heads.specs.Aims.{with_get, with_post, marked, aimed_by}
use Rattle.ur_check_heads.specs.Words.{each_by, exp_aims, exps_aim, held_aims, field_aims, fields_aim, branch_aims, branches_aim, part_aims, parts_aim}
use Rattle.ur_check_heads.proofs.Occurring as occurring
use Rattle.ur_check_heads.proofs.Occurring.{in_held, in_field, in_branch}

pub after : (os ps : List Occurrence) (a : Aims) → aimed_by (os ++ ps) a ≡ aimed_by ps (aimed_by os a)
after [] ps a = refl
after (o ∷ os) ps a = after os ps _

pub each-is : {A : Type 0} (f : A → List Occurrence) (xs : List A) (a : Aims) → aimed_by (flat_map f xs) a ≡ each_by f xs a
each-is f [] a = refl
each-is f (y ∷ ys) a = after (f y) (flat_map f ys) a ∙ each-is f ys (aimed_by (f y) a)

held-is : (h : Option Exp) (a : Aims) → aimed_by (in_held h) a ≡ held_aims h a
unfolding held_aims
held-is None a = refl
held-is (Some e) a = refl

-- ---- expressions

pub exp-Int : (n : _) (a : Aims) → exp_aims (x.Int n) a ≡ a
unfolding exp_aims
exp-Int n a = refl

pub exp-Str : (s : _) (a : Aims) → exp_aims (x.Str s) a ≡ a
unfolding exp_aims
exp-Str s a = refl

pub exp-Bool : (b : Bool) (a : Aims) → exp_aims (x.Bool b) a ≡ a
unfolding exp_aims
exp-Bool b a = refl

pub exp-Unit : (a : Aims) → exp_aims x.Unit a ≡ a
unfolding exp_aims
exp-Unit a = refl

pub exp-Variable : (i : ℕ) (a : Aims) → exp_aims (x.Variable i) a ≡ a
unfolding exp_aims
exp-Variable i a = refl

pub exp-Fixed : (i : ℕ) (a : Aims) → exp_aims (x.Fixed i) a ≡ a
unfolding exp_aims
exp-Fixed i a = refl

pub exp-Val : (k : ℕ) (a : Aims) → exp_aims (x.Val k) a ≡ a
unfolding exp_aims
exp-Val k a = refl

pub exp-Function : (k : ℕ) (cons : List Normal) (a : Aims) → exp_aims (x.Function k cons) a ≡ a
unfolding exp_aims
exp-Function k cons a = refl

pub exp-Absent : (t : NormalType) (a : Aims) → exp_aims (x.Absent t) a ≡ a
unfolding exp_aims
exp-Absent t a = refl

pub exp-Empty : (t : NormalType) (a : Aims) → exp_aims (x.Empty t) a ≡ a
unfolding exp_aims
exp-Empty t a = refl

pub exp-Next : (q : ℕ) (a : Aims) → exp_aims (x.Next q) a ≡ a
unfolding exp_aims
exp-Next q a = refl

pub exp-GetCookie : (k : ℕ) (a : Aims) → exp_aims (x.GetCookie k) a ≡ a
unfolding exp_aims
exp-GetCookie k a = refl

pub exp-Apply : (f : Exp) (args : List Exp) (s : Aims) → exp_aims (x.Apply f args) s ≡ exps_aim args (exp_aims f s)
unfolding exp_aims exps_aim
exp-Apply f args s = ap (λ os. aimed_by os s) (occurring.in-Apply f args) ∙ after (occurrences f) (flat_map occurrences args) s ∙ each-is occurrences args (aimed_by (occurrences f) s)

pub exp-Lambda : (params : List Param) (e : Exp) (s : Aims) → exp_aims (x.Lambda params e) s ≡ exp_aims e s
unfolding exp_aims
exp-Lambda params e s = ap (λ os. aimed_by os s) (occurring.in-Lambda params e)

pub exp-Record : (fields : List FieldExp) (s : Aims) → exp_aims (x.Record fields) s ≡ fields_aim fields s
unfolding exp_aims fields_aim
exp-Record fields s = ap (λ os. aimed_by os s) (occurring.in-Record fields) ∙ each-is in_field fields s

pub exp-Project : (e : Exp) (l : Label) (s : Aims) → exp_aims (x.Project e l) s ≡ exp_aims e s
unfolding exp_aims
exp-Project e l s = ap (λ os. aimed_by os s) (occurring.in-Project e l)

pub exp-Cut : (e : Exp) (l : Label) (s : Aims) → exp_aims (x.Cut e l) s ≡ exp_aims e s
unfolding exp_aims
exp-Cut e l s = ap (λ os. aimed_by os s) (occurring.in-Cut e l)

pub exp-Unary : (op : Unary) (e : Exp) (s : Aims) → exp_aims (x.Unary op e) s ≡ exp_aims e s
unfolding exp_aims
exp-Unary op e s = ap (λ os. aimed_by os s) (occurring.in-Unary op e)

pub exp-Binary : (op : Binary) (a b : Exp) (s : Aims) → exp_aims (x.Binary op a b) s ≡ exp_aims b (exp_aims a s)
unfolding exp_aims
exp-Binary op a b s = ap (λ os. aimed_by os s) (occurring.in-Binary op a b) ∙ after (occurrences a) (occurrences b) s

pub exp-Fail : (t : NormalType) (e : Exp) (s : Aims) → exp_aims (x.Fail t e) s ≡ exp_aims e s
unfolding exp_aims
exp-Fail t e s = ap (λ os. aimed_by os s) (occurring.in-Fail t e)

pub exp-Tagged : (k : ℕ) (held : Option Exp) (s : Aims) → exp_aims (x.Tagged k held) s ≡ held_aims held s
unfolding exp_aims
exp-Tagged k held s = ap (λ os. aimed_by os s) (occurring.in-Tagged k held) ∙ held-is held s

pub exp-If : (c a b : Exp) (s : Aims) → exp_aims (x.If c a b) s ≡ exp_aims b (exp_aims a (exp_aims c s))
unfolding exp_aims
exp-If c a b s = ap (λ os. aimed_by os s) (occurring.in-If c a b) ∙ after (occurrences c) (occurrences a ++ occurrences b) s ∙ after (occurrences a) (occurrences b) (aimed_by (occurrences c) s)

pub exp-Case : (e : Exp) (bs : List Branch) (s : Aims) → exp_aims (x.Case e bs) s ≡ branches_aim bs (exp_aims e s)
unfolding exp_aims branches_aim
exp-Case e bs s = ap (λ os. aimed_by os s) (occurring.in-Case e bs) ∙ after (occurrences e) (flat_map in_branch bs) s ∙ each-is in_branch bs (aimed_by (occurrences e) s)

pub exp-Let : (t : NormalType) (a b : Exp) (s : Aims) → exp_aims (x.Let t a b) s ≡ exp_aims b (exp_aims a s)
unfolding exp_aims
exp-Let t a b s = ap (λ os. aimed_by os s) (occurring.in-Let t a b) ∙ after (occurrences a) (occurrences b) s

pub exp-Bind : (a b : Exp) (s : Aims) → exp_aims (x.Bind a b) s ≡ exp_aims b (exp_aims a s)
unfolding exp_aims
exp-Bind a b s = ap (λ os. aimed_by os s) (occurring.in-Bind a b) ∙ after (occurrences a) (occurrences b) s

pub exp-SetCookie : (k : ℕ) (e : Exp) (s : Aims) → exp_aims (x.SetCookie k e) s ≡ exp_aims e s
unfolding exp_aims
exp-SetCookie k e s = ap (λ os. aimed_by os s) (occurring.in-SetCookie k e)

pub exp-Write : (u : ℕ) (args : List Exp) (s : Aims) → exp_aims (x.Write u args) s ≡ exps_aim args s
unfolding exp_aims exps_aim
exp-Write u args s = ap (λ os. aimed_by os s) (occurring.in-Write u args) ∙ each-is occurrences args s

pub exp-Ask : (how : AnswerForm) (q : ℕ) (args : List Exp) (s : Aims) → exp_aims (x.Ask how q args) s ≡ exps_aim args s
unfolding exp_aims exps_aim
exp-Ask how q args s = ap (λ os. aimed_by os s) (occurring.in-Ask how q args) ∙ each-is occurrences args s

pub exp-Each : (q : ℕ) (args : List Exp) (e : Exp) (s : Aims) → exp_aims (x.Each q args e) s ≡ exp_aims e (exps_aim args s)
unfolding exp_aims exps_aim
exp-Each q args e s = ap (λ os. aimed_by os s) (occurring.in-Each q args e) ∙ after (flat_map occurrences args) (occurrences e) s ∙ ap (aimed_by (occurrences e)) (each-is occurrences args s)

pub exp-Fold : (of : NormalType) (acc : Param) (a b : Exp) (row : List Part) (s : Aims) → exp_aims (x.Fold of acc a b row) s ≡ exp_aims b (exp_aims a s)
unfolding exp_aims
exp-Fold of acc a b row s = ap (λ os. aimed_by os s) (occurring.in-Fold of acc a b row) ∙ after (occurrences a) (occurrences b) s

pub exp-Xml : (t : NormalType) (parts : List Markup) (s : Aims) → exp_aims (x.Xml t parts) s ≡ parts_aim parts s
unfolding exp_aims parts_aim
exp-Xml t parts s = ap (λ os. aimed_by os s) (occurring.in-Xml t parts) ∙ each-is part_occurrences parts s

-- ---- parts of XML

pub part-Text : (t : _) (s : Aims) → part_aims (m.Text t) s ≡ s
unfolding part_aims
part-Text t s = refl

pub part-Shown : (e : Exp) (s : Aims) → part_aims (m.Shown e) s ≡ exp_aims e s
unfolding part_aims exp_aims
part-Shown e s = refl

pub part-Splice : (e : Exp) (s : Aims) → part_aims (m.Splice e) s ≡ exp_aims e s
unfolding part_aims exp_aims
part-Splice e s = refl

pub part-Element : (tag : Tag) (kids : List Markup) (s : Aims) → part_aims (m.Element tag kids) s ≡ parts_aim kids s
unfolding part_aims parts_aim
part-Element tag kids s = ap (λ os. aimed_by os s) (occurring.in-Element tag kids) ∙ each-is part_occurrences kids s

pub part-Link : (k : ℕ) (args : List Exp) (kids : List Markup) (s : Aims) → part_aims (m.Link k args kids) s ≡ parts_aim kids (exps_aim args (marked with_get k s))
unfolding part_aims parts_aim exps_aim
part-Link k args kids s = ap (λ os. aimed_by os s) (occurring.in-Link k args kids) ∙ after (flat_map occurrences args) (flat_map part_occurrences kids) (marked with_get k s) ∙ ap (aimed_by (flat_map part_occurrences kids)) (each-is occurrences args (marked with_get k s)) ∙ each-is part_occurrences kids (each_by occurrences args (marked with_get k s))

pub part-Input : (kind : FieldKind) (l : Label) (held : Option Exp) (s : Aims) → part_aims (m.Input kind l held) s ≡ held_aims held s
unfolding part_aims
part-Input kind l held s = ap (λ os. aimed_by os s) (occurring.in-Input kind l held) ∙ held-is held s

pub part-Submit : (k : ℕ) (args : List Exp) (held : Option Exp) (s : Aims) → part_aims (m.Submit k args held) s ≡ held_aims held (exps_aim args (marked with_post k s))
unfolding part_aims exps_aim
part-Submit k args held s = ap (λ os. aimed_by os s) (occurring.in-Submit k args held) ∙ after (flat_map occurrences args) (in_held held) (marked with_post k s) ∙ ap (aimed_by (in_held held)) (each-is occurrences args (marked with_post k s)) ∙ held-is held (each_by occurrences args (marked with_post k s))

-- ---- lists

pub held-None : (s : Aims) → held_aims None s ≡ s
unfolding held_aims
held-None s = refl

pub held-Some : (e : Exp) (s : Aims) → held_aims (Some e) s ≡ exp_aims e s
unfolding held_aims exp_aims
held-Some e s = refl

pub field-of : (f : FieldExp) (s : Aims) → field_aims f s ≡ exp_aims f.of s
unfolding field_aims exp_aims
field-of f s = refl

pub branch-of : (b : Branch) (s : Aims) → branch_aims b s ≡ exp_aims b.body s
unfolding branch_aims exp_aims
branch-of b s = refl

here : {A : Type 0} (f : A → List Occurrence) (xs : List A) (i : ℕ) (y : A) (s : Aims) → i < length xs → y ≡ get_or xs i y → each_by f (drop i xs) s ≡ each_by f (drop (i + 1) xs) (aimed_by (f y) s)
here f xs i y s h e = ap (λ l. each_by f l s) (drop-here xs i y h e)

pub exps-none : (s : Aims) → exps_aim [] s ≡ s
unfolding exps_aim
exps-none s = refl

pub exps-here : (xs : List Exp) (i : ℕ) (y : Exp) (s : Aims) → i < length xs → y ≡ get_or xs i y → exps_aim (drop i xs) s ≡ exps_aim (drop (i + 1) xs) (exp_aims y s)
unfolding exps_aim exp_aims
exps-here xs i y s h e = here occurrences xs i y s h e

pub fields-none : (s : Aims) → fields_aim [] s ≡ s
unfolding fields_aim
fields-none s = refl

pub fields-here : (xs : List FieldExp) (i : ℕ) (y : FieldExp) (s : Aims) → i < length xs → y ≡ get_or xs i y → fields_aim (drop i xs) s ≡ fields_aim (drop (i + 1) xs) (field_aims y s)
unfolding fields_aim field_aims
fields-here xs i y s h e = here in_field xs i y s h e

pub branches-none : (s : Aims) → branches_aim [] s ≡ s
unfolding branches_aim
branches-none s = refl

pub branches-here : (xs : List Branch) (i : ℕ) (y : Branch) (s : Aims) → i < length xs → y ≡ get_or xs i y → branches_aim (drop i xs) s ≡ branches_aim (drop (i + 1) xs) (branch_aims y s)
unfolding branches_aim branch_aims
branches-here xs i y s h e = here in_branch xs i y s h e

pub parts-none : (s : Aims) → parts_aim [] s ≡ s
unfolding parts_aim
parts-none s = refl

pub parts-here : (xs : List Markup) (i : ℕ) (y : Markup) (s : Aims) → i < length xs → y ≡ get_or xs i y → parts_aim (drop i xs) s ≡ parts_aim (drop (i + 1) xs) (part_aims y s)
unfolding parts_aim part_aims
parts-here xs i y s h e = here part_occurrences xs i y s h e

-- ---- one more of a list

pub start : {A : Type 0} (f : List A → Aims → Aims) (xs : List A) (a : Aims) → f (drop 0 xs) a ≡ f xs a
start f xs a = ap (λ l. f l a) (drop-none xs)

pub step : {A : Type 0} (f : List A → Aims → Aims) (xs : List A) (i : ℕ) (a s t u : Aims) → f (drop i xs) s ≡ f (drop (i + 1) xs) u → t ≡ u → f (drop i xs) s ≡ f xs a → f (drop (i + 1) xs) t ≡ f xs a
step f xs i a s t u h e inv = ap (f (drop (i + 1) xs)) e ∙ sym h ∙ inv

pub last : {A : Type 0} (f : List A → Aims → Aims) (xs : List A) (i : ℕ) (a s : Aims) → f [] s ≡ s → length xs ≤ i → f (drop i xs) s ≡ f xs a → s ≡ f xs a
last f xs i a s n h inv = sym n ∙ sym (left-end (λ l. f l s) xs i h) ∙ inv

pub ruleset in_forms = (exp-Int, exp-Str, exp-Bool, exp-Unit, exp-Variable, exp-Fixed, exp-Val, exp-Function, exp-Absent, exp-Empty, exp-Next, exp-GetCookie, exp-Apply, exp-Lambda, exp-Record, exp-Project, exp-Cut, exp-Unary, exp-Binary, exp-Fail, exp-Tagged, exp-If, exp-Case, exp-Let, exp-Bind, exp-SetCookie, exp-Write, exp-Ask, exp-Each, exp-Fold, exp-Xml)

pub ruleset in_markup = (part-Text, part-Shown, part-Splice, part-Element, part-Link, part-Input, part-Submit)

pub ruleset in_lists = (held-None, held-Some, field-of, branch-of)
