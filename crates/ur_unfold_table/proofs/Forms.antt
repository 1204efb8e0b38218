-- The forms of expressions and of parts of XML, one equation for each.
use Rattle.std.proofs.Common.{◌≡◌, ℕ, ℤ, Bool, ◌||◌, List, [], ◌∷◌, ◌++◌, map, length, Option, refl, ap}
use denote.Hole.Carrier
use Rattle.ur_values.specs.declared.value.FieldKind.{FieldKind}
use Rattle.ur_values.specs.declared.value.Tag.{Tag}
use Rattle.ur_terms.specs.declared.term.AnswerForm.{AnswerForm}
use Rattle.ur_terms.specs.declared.term.Op.TheVariants as op
use Rattle.ur_rows.specs.declared.normal.Label.{Label}
use Rattle.ur_rows.specs.declared.normal.Normal.{Normal}
use Rattle.ur_rows.specs.declared.normal.NormalType.{NormalType}
use Rattle.ur_rows.specs.declared.normal.Part.{Part}
use Rattle.ur_tree.specs.declared.exp.Unary.{Unary}
use Rattle.ur_tree.specs.declared.exp.Binary.{Binary}
use Rattle.ur_tree.specs.declared.exp.Param.{Param}
use Rattle.ur_tree.specs.declared.exp.Branch.{Branch}
use Rattle.ur_tree.specs.declared.exp.FieldExp.{FieldExp}
use Rattle.ur_tree.specs.declared.exp.Markup.{Markup, out-Markup}
use Rattle.ur_tree.specs.declared.exp.Markup.TheVariants as m
use Rattle.ur_tree.specs.declared.exp.Exp.{Exp, out-Exp}
use Rattle.ur_tree.specs.declared.exp.Exp.TheVariants as x
use Rattle.ur_tree.specs.declared.closed.Static.{out-Static}
use Rattle.ur_meaning.specs.Form.{int_form, text_form, bool_form, variable_form, strict_form, same_form, choice_form, let_form, case_form, each_form, no_form}
use Rattle.ur_source.specs.Reading.{label_number, closed_type, result_type, fold_steps}
use Rattle.ur_source.specs.Items.{Source, Scope, exp, part, folding, asking, exps, markups, optional, form_with, strict_with, if_static, only_where, is_computed, static_in, applied_form, unary_form, binary_form, field_numbers, label_name, route_of, has_unit, open_form, part_form, form_of}

-- ---- expressions

pub form-Int : (p : Source) (scope : Scope) (n : ℤ) → form_of p (exp scope (x.Int n)) ≡ int_form n
unfolding out-Exp denote.Hole.Carrier.out
form-Int p scope n = refl

pub form-Str : (p : Source) (scope : Scope) (t : List ℕ) → form_of p (exp scope (x.Str t)) ≡ text_form t
unfolding out-Exp denote.Hole.Carrier.out
form-Str p scope t = refl

pub form-Bool : (p : Source) (scope : Scope) (b : Bool) → form_of p (exp scope (x.Bool b)) ≡ bool_form b
unfolding out-Exp denote.Hole.Carrier.out
form-Bool p scope b = refl

pub form-Unit : (p : Source) (scope : Scope) → form_of p (exp scope x.Unit) ≡ strict_form (op.Record []) []
unfolding out-Exp denote.Hole.Carrier.out
form-Unit p scope = refl

pub form-Variable : (p : Source) (scope : Scope) (n : ℕ) → form_of p (exp scope (x.Variable n)) ≡ variable_form n
unfolding out-Exp denote.Hole.Carrier.out
form-Variable p scope n = refl

pub form-Fixed : (p : Source) (scope : Scope) (n : ℕ) → form_of p (exp scope (x.Fixed n)) ≡ if_static (static_in p scope (x.Fixed n)) no_form
unfolding out-Exp denote.Hole.Carrier.out
form-Fixed p scope n = refl

pub form-Val : (p : Source) (scope : Scope) (n : ℕ) → form_of p (exp scope (x.Val n)) ≡ if_static (static_in p scope (x.Val n)) no_form
unfolding out-Exp denote.Hole.Carrier.out
form-Val p scope n = refl

pub form-Function : (p : Source) (scope : Scope) (k : ℕ) (cons : List Normal) → form_of p (exp scope (x.Function k cons)) ≡ if_static (static_in p scope (x.Function k cons)) no_form
unfolding out-Exp denote.Hole.Carrier.out
form-Function p scope k cons = refl

pub form-Apply : (p : Source) (scope : Scope) (g : Exp) (args : List Exp) → form_of p (exp scope (x.Apply g args)) ≡ form_with (static_in p scope g) (λ s. applied_form p scope args (out-Static s))
form-Apply p scope g args = ap (open_form p scope (static_in p scope (x.Apply g args))) (x.outs-Apply g args)

pub form-Lambda : (p : Source) (scope : Scope) (params : List Param) (body : Exp) → form_of p (exp scope (x.Lambda params body)) ≡ no_form
form-Lambda p scope params body = ap (open_form p scope (static_in p scope (x.Lambda params body))) (x.outs-Lambda params body)

pub form-Record : (p : Source) (scope : Scope) (fields : List FieldExp) → form_of p (exp scope (x.Record fields)) ≡ strict_with (field_numbers p.names scope.cons fields) op.Record (map (λ g. exp scope g.of) fields)
form-Record p scope fields = ap (open_form p scope (static_in p scope (x.Record fields))) (x.outs-Record fields)

pub form-Project : (p : Source) (scope : Scope) (e : Exp) (l : Label) → form_of p (exp scope (x.Project e l)) ≡ if_static (only_where (is_computed p e) (static_in p scope (x.Project e l))) (strict_with (label_number p.names scope.cons l) op.Project (exp scope e ∷ []))
form-Project p scope e l = ap (open_form p scope (static_in p scope (x.Project e l))) (x.outs-Project e l)

pub form-Cut : (p : Source) (scope : Scope) (e : Exp) (l : Label) → form_of p (exp scope (x.Cut e l)) ≡ if_static (only_where (is_computed p e) (static_in p scope (x.Cut e l))) (strict_with (label_number p.names scope.cons l) op.Cut (exp scope e ∷ []))
form-Cut p scope e l = ap (open_form p scope (static_in p scope (x.Cut e l))) (x.outs-Cut e l)

pub form-Unary : (p : Source) (scope : Scope) (o : Unary) (e : Exp) → form_of p (exp scope (x.Unary o e)) ≡ unary_form scope o e
form-Unary p scope o e = ap (open_form p scope (static_in p scope (x.Unary o e))) (x.outs-Unary o e)

pub form-Binary : (p : Source) (scope : Scope) (o : Binary) (a : Exp) (b : Exp) → form_of p (exp scope (x.Binary o a b)) ≡ if_static (only_where (is_computed p a || is_computed p b) (static_in p scope (x.Binary o a b))) (binary_form scope o a b)
form-Binary p scope o a b = ap (open_form p scope (static_in p scope (x.Binary o a b))) (x.outs-Binary o a b)

pub form-Absent : (p : Source) (scope : Scope) (t : NormalType) → form_of p (exp scope (x.Absent t)) ≡ strict_form (op.Absent (closed_type p.names scope.cons t)) []
unfolding out-Exp denote.Hole.Carrier.out
form-Absent p scope t = refl

pub form-Empty : (p : Source) (scope : Scope) (t : NormalType) → form_of p (exp scope (x.Empty t)) ≡ strict_form (op.Empty (closed_type p.names scope.cons t)) []
unfolding out-Exp denote.Hole.Carrier.out
form-Empty p scope t = refl

pub form-Fail : (p : Source) (scope : Scope) (t : NormalType) (e : Exp) → form_of p (exp scope (x.Fail t e)) ≡ strict_form (op.Fail (result_type p.names scope.cons t).1) (exp scope e ∷ [])
form-Fail p scope t e = ap (open_form p scope (static_in p scope (x.Fail t e))) (x.outs-Fail t e)

pub form-Tagged : (p : Source) (scope : Scope) (k : ℕ) (e : Option Exp) → form_of p (exp scope (x.Tagged k e)) ≡ strict_form (op.Tagged k) (optional scope e)
form-Tagged p scope k e = ap (open_form p scope (static_in p scope (x.Tagged k e))) (x.outs-Tagged k e)

pub form-If : (p : Source) (scope : Scope) (e : Exp) (a : Exp) (b : Exp) → form_of p (exp scope (x.If e a b)) ≡ choice_form (exp scope e) (exp scope a) (exp scope b)
form-If p scope e a b = ap (open_form p scope (static_in p scope (x.If e a b))) (x.outs-If e a b)

pub form-Case : (p : Source) (scope : Scope) (e : Exp) (bs : List Branch) → form_of p (exp scope (x.Case e bs)) ≡ case_form (exp scope e) (map (λ b. (b.pattern, exp scope b.body)) bs)
form-Case p scope e bs = ap (open_form p scope (static_in p scope (x.Case e bs))) (x.outs-Case e bs)

pub form-Let : (p : Source) (scope : Scope) (t : NormalType) (e : Exp) (body : Exp) → form_of p (exp scope (x.Let t e body)) ≡ let_form (exp scope e ∷ []) (exp scope body)
form-Let p scope t e body = ap (open_form p scope (static_in p scope (x.Let t e body))) (x.outs-Let t e body)

pub form-Bind : (p : Source) (scope : Scope) (e : Exp) (body : Exp) → form_of p (exp scope (x.Bind e body)) ≡ let_form (exp scope e ∷ []) (exp scope body)
form-Bind p scope e body = ap (open_form p scope (static_in p scope (x.Bind e body))) (x.outs-Bind e body)

pub form-Next : (p : Source) (scope : Scope) (q : ℕ) → form_of p (exp scope (x.Next q)) ≡ strict_form (op.Next q) []
unfolding out-Exp denote.Hole.Carrier.out
form-Next p scope q = refl

pub form-GetCookie : (p : Source) (scope : Scope) (k : ℕ) → form_of p (exp scope (x.GetCookie k)) ≡ strict_form (op.GetCookie k) []
unfolding out-Exp denote.Hole.Carrier.out
form-GetCookie p scope k = refl

pub form-SetCookie : (p : Source) (scope : Scope) (k : ℕ) (e : Exp) → form_of p (exp scope (x.SetCookie k e)) ≡ strict_form (op.SetCookie k) (exp scope e ∷ [])
form-SetCookie p scope k e = ap (open_form p scope (static_in p scope (x.SetCookie k e))) (x.outs-SetCookie k e)

pub form-Write : (p : Source) (scope : Scope) (u : ℕ) (args : List Exp) → form_of p (exp scope (x.Write u args)) ≡ strict_form (op.Write u) (exps scope args)
form-Write p scope u args = ap (open_form p scope (static_in p scope (x.Write u args))) (x.outs-Write u args)

pub form-Ask : (p : Source) (scope : Scope) (form : AnswerForm) (q : ℕ) (args : List Exp) → form_of p (exp scope (x.Ask form q args)) ≡ strict_form (op.Ask form q) (exps scope args)
form-Ask p scope form q args = ap (open_form p scope (static_in p scope (x.Ask form q args))) (x.outs-Ask form q args)

pub form-Each : (p : Source) (scope : Scope) (q : ℕ) (args : List Exp) (body : Exp) → form_of p (exp scope (x.Each q args body)) ≡ each_form (asking scope q args) (exp scope body)
form-Each p scope q args body = ap (open_form p scope (static_in p scope (x.Each q args body))) (x.outs-Each q args body)

pub form-Fold : (p : Source) (scope : Scope) (of : NormalType) (acc : Param) (step : Exp) (start : Exp) (row : List Part) → form_of p (exp scope (x.Fold of acc step start row)) ≡ if_static (static_in p scope (x.Fold of acc step start row)) (form_with (fold_steps scope.cons row) (λ ks. same_form (folding scope step start ks)))
form-Fold p scope of acc step start row = ap (open_form p scope (static_in p scope (x.Fold of acc step start row))) (x.outs-Fold of acc step start row)

pub form-Xml : (p : Source) (scope : Scope) (t : NormalType) (ps : List Markup) → form_of p (exp scope (x.Xml t ps)) ≡ strict_form (op.Markup (closed_type p.names scope.cons t)) (markups scope ps)
form-Xml p scope t ps = ap (open_form p scope (static_in p scope (x.Xml t ps))) (x.outs-Xml t ps)

-- ---- parts of XML

pub part-Text : (p : Source) (scope : Scope) (t : List ℕ) → form_of p (part scope (m.Text t)) ≡ strict_form (op.Text t) []
unfolding out-Markup denote.Hole.Carrier.out
part-Text p scope t = refl

pub part-Shown : (p : Source) (scope : Scope) (e : Exp) → form_of p (part scope (m.Shown e)) ≡ strict_form op.Shown (exp scope e ∷ [])
part-Shown p scope e = ap (part_form p scope) (m.outs-Shown e)

pub part-Splice : (p : Source) (scope : Scope) (e : Exp) → form_of p (part scope (m.Splice e)) ≡ same_form (exp scope e)
part-Splice p scope e = ap (part_form p scope) (m.outs-Splice e)

pub part-Element : (p : Source) (scope : Scope) (tag : Tag) (kids : List Markup) → form_of p (part scope (m.Element tag kids)) ≡ strict_form (op.Element tag) (markups scope kids)
part-Element p scope tag kids = ap (part_form p scope) (m.outs-Element tag kids)

pub part-Link : (p : Source) (scope : Scope) (k : ℕ) (args : List Exp) (kids : List Markup) → form_of p (part scope (m.Link k args kids)) ≡ strict_with (route_of p.targets k) (λ r. op.Link r (length args)) (exps scope args ++ markups scope kids)
part-Link p scope k args kids = ap (part_form p scope) (m.outs-Link k args kids)

pub part-Input : (p : Source) (scope : Scope) (kind : FieldKind) (l : Label) (e : Option Exp) → form_of p (part scope (m.Input kind l e)) ≡ strict_with (label_name p.names scope.cons l) (λ n. op.Input kind n.0 n.1) (optional scope e)
part-Input p scope kind l e = ap (part_form p scope) (m.outs-Input kind l e)

pub part-Submit : (p : Source) (scope : Scope) (k : ℕ) (args : List Exp) (e : Option Exp) → form_of p (part scope (m.Submit k args e)) ≡ form_with (route_of p.targets k) (λ r. strict_with (has_unit p.handlers r (length args)) (op.Submit r (length args)) (exps scope args ++ optional scope e))
part-Submit p scope k args e = ap (part_form p scope) (m.outs-Submit k args e)
