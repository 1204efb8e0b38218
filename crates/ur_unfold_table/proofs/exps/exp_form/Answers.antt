use Rattle.std.specs.Prelude.{FitsSigned}
use Rattle.std.proofs.lemmas.Int.{to_z-of_z}
use Rattle.std.proofs.Common.{ℤ, w64, rules, [], ◌∷◌, map, refl, sym, subst}
use Rattle.ur_terms.specs.declared.term.Op.TheVariants as op
use Rattle.ur_tree.specs.declared.exp.Exp.TheVariants as x
use Rattle.ur_meaning.specs.Form.{int_form, text_form, bool_form, variable_form, strict_form, choice_form, let_form, case_form, each_form}
use Rattle.ur_source.specs.Items as i
use Rattle.ur_source.specs.Items.{exps, optional, unary_form}
use Rattle.ur_source.specs.Source.{source_of}
use Rattle.ur_meaning.specs.declared.head.Head.TheVariants as head
use Rattle.ur_meaning.specs.Heads as heads
use Rattle.ur_unfold_pieces.specs.Told.{exps_told, held_told}
use Rattle.ur_unfold_pieces.specs.Forming.{OpensExp}
use Rattle.ur_unfold_pieces.proofs.Staying.{stays_so, moves_of}
use Rattle.ur_unfold_table.specs.Opened.{IsOpened}
use Rattle.ur_unfold_table.proofs.Forms.{form-Ask, form-Bind, form-Bool, form-Case, form-Each, form-GetCookie, form-If, form-Int, form-Let, form-Next, form-SetCookie, form-Str, form-Tagged, form-Unary, form-Unit, form-Variable, form-Write}
use Rattle.ur_unfold_table.proofs.Telling.{exps_say, held_says}
use Rattle.ur_unfold_table.proofs.Forming.{opened_formed}
use Rattle.ur_unfold_table.proofs.Formed.{opens_exp}
use Rattle.ur_unfold_table.proofs.Shaped.{opens_static, static_form-Fixed, static_form-Val, opens_lambda, lambda_none, unary_formed, cases_formed, each_formed}
use Rattle.ur_unfold_table.proofs.exps.exp_form.Goals as goal

pub returns-in-Int-clause-form : goal.returns-in-Int-clause-form
returns-in-Int-clause-form c =
    let fits : FitsSigned w64 c.in-Int.n = search rules in
    opens_exp c.args.table.now c.args.table.now c.args.scope c.args.e.now (x.Int c.in-Int.n) c.leaf.result (λ scope. int_form c.in-Int.n) c.in-Int.is (λ scope. form-Int (source_of c.args.table.now.typed.now) scope c.in-Int.n)
    (λ scope at whole. opened_formed c.args.table.now c.args.table.now refl (head.Int c.in-Int.n) ([]) ([]) (int_form c.in-Int.n) c.leaf.result (subst (λ (n : ℤ). IsOpened (head.Int n) [] c.leaf.result) (to_z-of_z w64 c.in-Int.n fits) c.leaf.ensures) tt (heads.int c.in-Int.n) refl)

pub returns-in-Int-clause-moves : goal.returns-in-Int-clause-moves
returns-in-Int-clause-moves c = moves_of c.args.table.now c.args.table.now (stays_so c.args.table.now)

pub returns-in-Str-clause-form : goal.returns-in-Str-clause-form
returns-in-Str-clause-form c = opens_exp c.args.table.now c.args.table.now c.args.scope c.args.e.now (x.Str c.in-Str.text) c.text_form.result (λ scope. text_form c.in-Str.text) c.in-Str.is (λ scope. form-Str (source_of c.args.table.now.typed.now) scope c.in-Str.text)
    (λ scope at whole. opened_formed c.args.table.now c.args.table.now refl (head.Text c.in-Str.text) ([]) ([]) (text_form c.in-Str.text) c.text_form.result c.text_form.ensures tt (heads.text c.in-Str.text) refl)

pub returns-in-Str-clause-moves : goal.returns-in-Str-clause-moves
returns-in-Str-clause-moves c = moves_of c.args.table.now c.args.table.now (stays_so c.args.table.now)

pub returns-in-Bool-clause-form : goal.returns-in-Bool-clause-form
returns-in-Bool-clause-form c = opens_exp c.args.table.now c.args.table.now c.args.scope c.args.e.now (x.Bool c.in-Bool.b) c.leaf-in-Bool.result (λ scope. bool_form c.in-Bool.b) c.in-Bool.is (λ scope. form-Bool (source_of c.args.table.now.typed.now) scope c.in-Bool.b)
    (λ scope at whole. opened_formed c.args.table.now c.args.table.now refl (head.Bool c.in-Bool.b) ([]) ([]) (bool_form c.in-Bool.b) c.leaf-in-Bool.result c.leaf-in-Bool.ensures tt (heads.bool c.in-Bool.b) refl)

pub returns-in-Bool-clause-moves : goal.returns-in-Bool-clause-moves
returns-in-Bool-clause-moves c = moves_of c.args.table.now c.args.table.now (stays_so c.args.table.now)

pub returns-in-Unit-clause-form : goal.returns-in-Unit-clause-form
returns-in-Unit-clause-form c = opens_exp c.args.table.now c.args.table.now c.args.scope c.args.e.now x.Unit c.leaf-in-Unit.result (λ scope. strict_form (op.Record []) []) c.in-Unit.is (λ scope. form-Unit (source_of c.args.table.now.typed.now) scope)
    (λ scope at whole. opened_formed c.args.table.now c.args.table.now refl (head.Strict (op.Record [])) ([]) ([]) (strict_form (op.Record []) []) c.leaf-in-Unit.result (subst (λ l. IsOpened (head.Strict (op.Record l)) [] c.leaf-in-Unit.result) c.new.ensures c.leaf-in-Unit.ensures) tt (heads.strict (op.Record []) []) refl)

pub returns-in-Unit-clause-moves : goal.returns-in-Unit-clause-moves
returns-in-Unit-clause-moves c = moves_of c.args.table.now c.args.table.now (stays_so c.args.table.now)

pub returns-in-Variable-clause-form : goal.returns-in-Variable-clause-form
returns-in-Variable-clause-form c = opens_exp c.args.table.now c.args.table.now c.args.scope c.args.e.now (x.Variable c.in-Variable.n) c.leaf-in-Variable.result (λ scope. variable_form c.in-Variable.n) c.in-Variable.is (λ scope. form-Variable (source_of c.args.table.now.typed.now) scope c.in-Variable.n)
    (λ scope at whole. opened_formed c.args.table.now c.args.table.now refl (head.Variable c.in-Variable.n) ([]) ([]) (variable_form c.in-Variable.n) c.leaf-in-Variable.result c.leaf-in-Variable.ensures tt (heads.variable c.in-Variable.n) refl)

pub returns-in-Variable-clause-moves : goal.returns-in-Variable-clause-moves
returns-in-Variable-clause-moves c = moves_of c.args.table.now c.args.table.now (stays_so c.args.table.now)

pub returns-in-Fixed-clause-form : goal.returns-in-Fixed-clause-form
returns-in-Fixed-clause-form c = opens_static c.args.table.now c.static_form.new.table c.args.scope c.args.e.now c.static_form.result (static_form-Fixed (source_of c.args.table.now.typed.now) c.args.e.now c.in-Fixed.field-0 c.in-Fixed.is) c.static_form.ensures.form

pub returns-in-Fixed-clause-moves : goal.returns-in-Fixed-clause-moves
returns-in-Fixed-clause-moves c = moves_of c.args.table.now c.static_form.new.table c.static_form.ensures.stays

pub returns-in-Val-clause-form : goal.returns-in-Val-clause-form
returns-in-Val-clause-form c = opens_static c.args.table.now c.static_form-in-Val.new.table c.args.scope c.args.e.now c.static_form-in-Val.result (static_form-Val (source_of c.args.table.now.typed.now) c.args.e.now c.in-Val.field-0 c.in-Val.is) c.static_form-in-Val.ensures.form

pub returns-in-Val-clause-moves : goal.returns-in-Val-clause-moves
returns-in-Val-clause-moves c = moves_of c.args.table.now c.static_form-in-Val.new.table c.static_form-in-Val.ensures.stays

pub returns-in-Function-clause-form : goal.returns-in-Function-clause-form
returns-in-Function-clause-form c = c.name_form.ensures.form c.in-Function.is

pub returns-in-Function-clause-moves : goal.returns-in-Function-clause-moves
returns-in-Function-clause-moves c = moves_of c.args.table.now c.name_form.new.table c.name_form.ensures.stays

pub returns-in-Apply-clause-form : goal.returns-in-Apply-clause-form
returns-in-Apply-clause-form c = subst (λ e. OpensExp c.args.table.now c.apply_form.new.table c.args.scope e c.apply_form.result) (sym c.in-Apply.is) c.apply_form.ensures.form

pub returns-in-Apply-clause-moves : goal.returns-in-Apply-clause-moves
returns-in-Apply-clause-moves c = c.apply_form.ensures.moves

pub returns-in-Lambda-clause-form : goal.returns-in-Lambda-clause-form
returns-in-Lambda-clause-form c = opens_lambda c.args.table.now c.args.scope c.args.e.now c.nothing.result (lambda_none (source_of c.args.table.now.typed.now) c.args.e.now c.in-Lambda.field-0 c.in-Lambda.field-1 c.in-Lambda.is) c.nothing.ensures

pub returns-in-Lambda-clause-moves : goal.returns-in-Lambda-clause-moves
returns-in-Lambda-clause-moves c = moves_of c.args.table.now c.args.table.now (stays_so c.args.table.now)

pub returns-in-Record-clause-form : goal.returns-in-Record-clause-form
returns-in-Record-clause-form c = subst (λ e. OpensExp c.args.table.now c.args.table.now c.args.scope e c.record_form.result) (sym c.in-Record.is) c.record_form.ensures

pub returns-in-Record-clause-moves : goal.returns-in-Record-clause-moves
returns-in-Record-clause-moves c = moves_of c.args.table.now c.args.table.now (stays_so c.args.table.now)

pub returns-in-Project-clause-form : goal.returns-in-Project-clause-form
returns-in-Project-clause-form c = c.project_form.ensures.form c.in-Project.is

pub returns-in-Project-clause-moves : goal.returns-in-Project-clause-moves
returns-in-Project-clause-moves c = moves_of c.args.table.now c.project_form.new.table c.project_form.ensures.stays

pub returns-in-Cut-clause-form : goal.returns-in-Cut-clause-form
returns-in-Cut-clause-form c = c.cut_form.ensures.form c.in-Cut.is

pub returns-in-Cut-clause-moves : goal.returns-in-Cut-clause-moves
returns-in-Cut-clause-moves c = moves_of c.args.table.now c.cut_form.new.table c.cut_form.ensures.stays

pub returns-in-Unary-clause-form : goal.returns-in-Unary-clause-form
returns-in-Unary-clause-form c = opens_exp c.args.table.now c.args.table.now c.args.scope c.args.e.now (x.Unary c.in-Unary.op c.in-Unary.a) c.unary_form.result (λ scope. unary_form scope c.in-Unary.op c.in-Unary.a) c.in-Unary.is (λ scope. form-Unary (source_of c.args.table.now.typed.now) scope c.in-Unary.op c.in-Unary.a)
    (λ scope at whole. unary_formed c.args.table.now c.args.scope scope at c.in-Unary.op c.in-Unary.a c.unary_form.result c.unary_form.ensures)

pub returns-in-Unary-clause-moves : goal.returns-in-Unary-clause-moves
returns-in-Unary-clause-moves c = moves_of c.args.table.now c.args.table.now (stays_so c.args.table.now)

pub returns-in-Binary-clause-form : goal.returns-in-Binary-clause-form
returns-in-Binary-clause-form c = c.operator_form.ensures.form c.in-Binary.is

pub returns-in-Binary-clause-moves : goal.returns-in-Binary-clause-moves
returns-in-Binary-clause-moves c = moves_of c.args.table.now c.operator_form.new.table c.operator_form.ensures.stays

pub returns-in-Absent-clause-form : goal.returns-in-Absent-clause-form
returns-in-Absent-clause-form c = subst (λ e. OpensExp c.args.table.now c.args.table.now c.args.scope e c.absent_form.result) (sym c.in-Absent.is) c.absent_form.ensures

pub returns-in-Absent-clause-moves : goal.returns-in-Absent-clause-moves
returns-in-Absent-clause-moves c = moves_of c.args.table.now c.args.table.now (stays_so c.args.table.now)

pub returns-in-Empty-clause-form : goal.returns-in-Empty-clause-form
returns-in-Empty-clause-form c = subst (λ e. OpensExp c.args.table.now c.args.table.now c.args.scope e c.empty_form.result) (sym c.in-Empty.is) c.empty_form.ensures

pub returns-in-Empty-clause-moves : goal.returns-in-Empty-clause-moves
returns-in-Empty-clause-moves c = moves_of c.args.table.now c.args.table.now (stays_so c.args.table.now)

pub returns-in-Fail-clause-form : goal.returns-in-Fail-clause-form
returns-in-Fail-clause-form c = subst (λ e. OpensExp c.args.table.now c.args.table.now c.args.scope e c.fail_form.result) (sym c.in-Fail.is) c.fail_form.ensures

pub returns-in-Fail-clause-moves : goal.returns-in-Fail-clause-moves
returns-in-Fail-clause-moves c = moves_of c.args.table.now c.args.table.now (stays_so c.args.table.now)

pub returns-in-Tagged-clause-form : goal.returns-in-Tagged-clause-form
returns-in-Tagged-clause-form c = opens_exp c.args.table.now c.args.table.now c.args.scope c.args.e.now (x.Tagged c.in-Tagged.k c.in-Tagged.a) c.held.result (λ scope. strict_form (op.Tagged c.in-Tagged.k) (optional scope c.in-Tagged.a)) c.in-Tagged.is (λ scope. form-Tagged (source_of c.args.table.now.typed.now) scope c.in-Tagged.k c.in-Tagged.a)
    (λ scope at whole. opened_formed c.args.table.now c.args.table.now refl (head.Strict (op.Tagged c.in-Tagged.k)) (held_told c.args.scope c.in-Tagged.a) (optional scope c.in-Tagged.a) (strict_form (op.Tagged c.in-Tagged.k) (optional scope c.in-Tagged.a)) c.held.result c.held.ensures (held_says c.args.table.now c.args.scope scope at c.in-Tagged.a) (heads.strict (op.Tagged c.in-Tagged.k) (optional scope c.in-Tagged.a)) refl)

pub returns-in-Tagged-clause-moves : goal.returns-in-Tagged-clause-moves
returns-in-Tagged-clause-moves c = moves_of c.args.table.now c.args.table.now (stays_so c.args.table.now)

pub returns-in-If-clause-form : goal.returns-in-If-clause-form
returns-in-If-clause-form c = opens_exp c.args.table.now c.args.table.now c.args.scope c.args.e.now (x.If c.in-If.c c.in-If.a c.in-If.b) c.choice_form.result (λ scope. choice_form (i.exp scope c.in-If.c) (i.exp scope c.in-If.a) (i.exp scope c.in-If.b)) c.in-If.is (λ scope. form-If (source_of c.args.table.now.typed.now) scope c.in-If.c c.in-If.a c.in-If.b)
    (λ scope at whole. opened_formed c.args.table.now c.args.table.now refl (head.Choice) (exps_told c.args.scope (c.in-If.c ∷ c.in-If.a ∷ c.in-If.b ∷ [])) (exps scope (c.in-If.c ∷ c.in-If.a ∷ c.in-If.b ∷ [])) (choice_form (i.exp scope c.in-If.c) (i.exp scope c.in-If.a) (i.exp scope c.in-If.b)) c.choice_form.result c.choice_form.ensures (exps_say c.args.table.now c.args.scope scope at (c.in-If.c ∷ c.in-If.a ∷ c.in-If.b ∷ [])) (heads.choice (i.exp scope c.in-If.c) (i.exp scope c.in-If.a) (i.exp scope c.in-If.b)) refl)

pub returns-in-If-clause-moves : goal.returns-in-If-clause-moves
returns-in-If-clause-moves c = moves_of c.args.table.now c.args.table.now (stays_so c.args.table.now)

pub returns-in-Case-clause-form : goal.returns-in-Case-clause-form
returns-in-Case-clause-form c = opens_exp c.args.table.now c.args.table.now c.args.scope c.args.e.now (x.Case c.in-Case.a c.in-Case.branches) c.cases_form.result (λ scope. case_form (i.exp scope c.in-Case.a) (map (λ b. (b.pattern, i.exp scope b.body)) c.in-Case.branches)) c.in-Case.is (λ scope. form-Case (source_of c.args.table.now.typed.now) scope c.in-Case.a c.in-Case.branches)
    (λ scope at whole. cases_formed c.args.table.now c.args.scope scope at c.in-Case.a c.in-Case.branches c.cases_form.result c.cases_form.ensures)

pub returns-in-Case-clause-moves : goal.returns-in-Case-clause-moves
returns-in-Case-clause-moves c = moves_of c.args.table.now c.args.table.now (stays_so c.args.table.now)

pub returns-in-Let-clause-form : goal.returns-in-Let-clause-form
returns-in-Let-clause-form c = opens_exp c.args.table.now c.args.table.now c.args.scope c.args.e.now (x.Let c.in-Let.field-0 c.in-Let.a c.in-Let.body) c.boxed_two.result (λ scope. let_form (i.exp scope c.in-Let.a ∷ []) (i.exp scope c.in-Let.body)) c.in-Let.is (λ scope. form-Let (source_of c.args.table.now.typed.now) scope c.in-Let.field-0 c.in-Let.a c.in-Let.body)
    (λ scope at whole. opened_formed c.args.table.now c.args.table.now refl head.Let (exps_told c.args.scope (c.in-Let.a ∷ c.in-Let.body ∷ [])) (exps scope (c.in-Let.a ∷ c.in-Let.body ∷ [])) (let_form (i.exp scope c.in-Let.a ∷ []) (i.exp scope c.in-Let.body)) c.boxed_two.result c.boxed_two.ensures (exps_say c.args.table.now c.args.scope scope at (c.in-Let.a ∷ c.in-Let.body ∷ [])) (heads.bound (i.exp scope c.in-Let.a ∷ []) (i.exp scope c.in-Let.body)) refl)

pub returns-in-Let-clause-moves : goal.returns-in-Let-clause-moves
returns-in-Let-clause-moves c = moves_of c.args.table.now c.args.table.now (stays_so c.args.table.now)

pub returns-in-Bind-clause-form : goal.returns-in-Bind-clause-form
returns-in-Bind-clause-form c = opens_exp c.args.table.now c.args.table.now c.args.scope c.args.e.now (x.Bind c.in-Bind.a c.in-Bind.body) c.boxed_two-in-Bind.result (λ scope. let_form (i.exp scope c.in-Bind.a ∷ []) (i.exp scope c.in-Bind.body)) c.in-Bind.is (λ scope. form-Bind (source_of c.args.table.now.typed.now) scope c.in-Bind.a c.in-Bind.body)
    (λ scope at whole. opened_formed c.args.table.now c.args.table.now refl (head.Let) (exps_told c.args.scope (c.in-Bind.a ∷ c.in-Bind.body ∷ [])) (exps scope (c.in-Bind.a ∷ c.in-Bind.body ∷ [])) (let_form (i.exp scope c.in-Bind.a ∷ []) (i.exp scope c.in-Bind.body)) c.boxed_two-in-Bind.result c.boxed_two-in-Bind.ensures (exps_say c.args.table.now c.args.scope scope at (c.in-Bind.a ∷ c.in-Bind.body ∷ [])) (heads.bound (i.exp scope c.in-Bind.a ∷ []) (i.exp scope c.in-Bind.body)) refl)

pub returns-in-Bind-clause-moves : goal.returns-in-Bind-clause-moves
returns-in-Bind-clause-moves c = moves_of c.args.table.now c.args.table.now (stays_so c.args.table.now)

pub returns-in-Next-clause-form : goal.returns-in-Next-clause-form
returns-in-Next-clause-form c = opens_exp c.args.table.now c.args.table.now c.args.scope c.args.e.now (x.Next c.in-Next.q) c.leaf-in-Next.result (λ scope. strict_form (op.Next c.in-Next.q) []) c.in-Next.is (λ scope. form-Next (source_of c.args.table.now.typed.now) scope c.in-Next.q)
    (λ scope at whole. opened_formed c.args.table.now c.args.table.now refl (head.Strict (op.Next c.in-Next.q)) ([]) ([]) (strict_form (op.Next c.in-Next.q) []) c.leaf-in-Next.result c.leaf-in-Next.ensures tt (heads.strict (op.Next c.in-Next.q) []) refl)

pub returns-in-Next-clause-moves : goal.returns-in-Next-clause-moves
returns-in-Next-clause-moves c = moves_of c.args.table.now c.args.table.now (stays_so c.args.table.now)

pub returns-in-GetCookie-clause-form : goal.returns-in-GetCookie-clause-form
returns-in-GetCookie-clause-form c = opens_exp c.args.table.now c.args.table.now c.args.scope c.args.e.now (x.GetCookie c.in-GetCookie.k) c.leaf-in-GetCookie.result (λ scope. strict_form (op.GetCookie c.in-GetCookie.k) []) c.in-GetCookie.is (λ scope. form-GetCookie (source_of c.args.table.now.typed.now) scope c.in-GetCookie.k)
    (λ scope at whole. opened_formed c.args.table.now c.args.table.now refl (head.Strict (op.GetCookie c.in-GetCookie.k)) ([]) ([]) (strict_form (op.GetCookie c.in-GetCookie.k) []) c.leaf-in-GetCookie.result c.leaf-in-GetCookie.ensures tt (heads.strict (op.GetCookie c.in-GetCookie.k) []) refl)

pub returns-in-GetCookie-clause-moves : goal.returns-in-GetCookie-clause-moves
returns-in-GetCookie-clause-moves c = moves_of c.args.table.now c.args.table.now (stays_so c.args.table.now)

pub returns-in-SetCookie-clause-form : goal.returns-in-SetCookie-clause-form
returns-in-SetCookie-clause-form c = opens_exp c.args.table.now c.args.table.now c.args.scope c.args.e.now (x.SetCookie c.in-SetCookie.k c.in-SetCookie.a) c.boxed_one.result (λ scope. strict_form (op.SetCookie c.in-SetCookie.k) (i.exp scope c.in-SetCookie.a ∷ [])) c.in-SetCookie.is (λ scope. form-SetCookie (source_of c.args.table.now.typed.now) scope c.in-SetCookie.k c.in-SetCookie.a)
    (λ scope at whole. opened_formed c.args.table.now c.args.table.now refl (head.Strict (op.SetCookie c.in-SetCookie.k)) (exps_told c.args.scope (c.in-SetCookie.a ∷ [])) (exps scope (c.in-SetCookie.a ∷ [])) (strict_form (op.SetCookie c.in-SetCookie.k) (i.exp scope c.in-SetCookie.a ∷ [])) c.boxed_one.result c.boxed_one.ensures (exps_say c.args.table.now c.args.scope scope at (c.in-SetCookie.a ∷ [])) (heads.strict (op.SetCookie c.in-SetCookie.k) (i.exp scope c.in-SetCookie.a ∷ [])) refl)

pub returns-in-SetCookie-clause-moves : goal.returns-in-SetCookie-clause-moves
returns-in-SetCookie-clause-moves c = moves_of c.args.table.now c.args.table.now (stays_so c.args.table.now)

pub returns-in-Write-clause-form : goal.returns-in-Write-clause-form
returns-in-Write-clause-form c = opens_exp c.args.table.now c.args.table.now c.args.scope c.args.e.now (x.Write c.in-Write.u c.in-Write.args) c.all.result (λ scope. strict_form (op.Write c.in-Write.u) (exps scope c.in-Write.args)) c.in-Write.is (λ scope. form-Write (source_of c.args.table.now.typed.now) scope c.in-Write.u c.in-Write.args)
    (λ scope at whole. opened_formed c.args.table.now c.args.table.now refl (head.Strict (op.Write c.in-Write.u)) (exps_told c.args.scope c.in-Write.args) (exps scope c.in-Write.args) (strict_form (op.Write c.in-Write.u) (exps scope c.in-Write.args)) c.all.result c.all.ensures (exps_say c.args.table.now c.args.scope scope at c.in-Write.args) (heads.strict (op.Write c.in-Write.u) (exps scope c.in-Write.args)) refl)

pub returns-in-Write-clause-moves : goal.returns-in-Write-clause-moves
returns-in-Write-clause-moves c = moves_of c.args.table.now c.args.table.now (stays_so c.args.table.now)

pub returns-in-Ask-clause-form : goal.returns-in-Ask-clause-form
returns-in-Ask-clause-form c = opens_exp c.args.table.now c.args.table.now c.args.scope c.args.e.now (x.Ask c.in-Ask.how c.in-Ask.q c.in-Ask.args) c.all-in-Ask.result (λ scope. strict_form (op.Ask c.in-Ask.how c.in-Ask.q) (exps scope c.in-Ask.args)) c.in-Ask.is (λ scope. form-Ask (source_of c.args.table.now.typed.now) scope c.in-Ask.how c.in-Ask.q c.in-Ask.args)
    (λ scope at whole. opened_formed c.args.table.now c.args.table.now refl (head.Strict (op.Ask c.in-Ask.how c.in-Ask.q)) (exps_told c.args.scope c.in-Ask.args) (exps scope c.in-Ask.args) (strict_form (op.Ask c.in-Ask.how c.in-Ask.q) (exps scope c.in-Ask.args)) c.all-in-Ask.result c.all-in-Ask.ensures (exps_say c.args.table.now c.args.scope scope at c.in-Ask.args) (heads.strict (op.Ask c.in-Ask.how c.in-Ask.q) (exps scope c.in-Ask.args)) refl)

pub returns-in-Ask-clause-moves : goal.returns-in-Ask-clause-moves
returns-in-Ask-clause-moves c = moves_of c.args.table.now c.args.table.now (stays_so c.args.table.now)

pub returns-in-Each-clause-form : goal.returns-in-Each-clause-form
returns-in-Each-clause-form c = opens_exp c.args.table.now c.args.table.now c.args.scope c.args.e.now (x.Each c.in-Each.q c.in-Each.args c.in-Each.body) c.each_form.result (λ scope. each_form (i.asking scope c.in-Each.q c.in-Each.args) (i.exp scope c.in-Each.body)) c.in-Each.is (λ scope. form-Each (source_of c.args.table.now.typed.now) scope c.in-Each.q c.in-Each.args c.in-Each.body)
    (λ scope at whole. each_formed c.args.table.now c.args.scope scope at c.in-Each.q c.in-Each.args c.in-Each.body c.each_form.result c.each_form.ensures)

pub returns-in-Each-clause-moves : goal.returns-in-Each-clause-moves
returns-in-Each-clause-moves c = moves_of c.args.table.now c.args.table.now (stays_so c.args.table.now)

pub returns-in-Fold-clause-form : goal.returns-in-Fold-clause-form
returns-in-Fold-clause-form c = c.fold_form.ensures.form c.in-Fold.of c.in-Fold.acc c.in-Fold.is

pub returns-in-Fold-clause-moves : goal.returns-in-Fold-clause-moves
returns-in-Fold-clause-moves c = moves_of c.args.table.now c.fold_form.new.table c.fold_form.ensures.stays

pub returns-in-Xml-clause-form : goal.returns-in-Xml-clause-form
returns-in-Xml-clause-form c = subst (λ e. OpensExp c.args.table.now c.args.table.now c.args.scope e c.xml_form.result) (sym c.in-Xml.is) c.xml_form.ensures

pub returns-in-Xml-clause-moves : goal.returns-in-Xml-clause-moves
returns-in-Xml-clause-moves c = moves_of c.args.table.now c.args.table.now (stays_so c.args.table.now)
