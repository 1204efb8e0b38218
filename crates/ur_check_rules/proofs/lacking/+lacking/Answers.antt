use Rattle.std.proofs.Common.{sym, ap, ◌∙◌}
use Rattle.ur_syntax.specs.declared.exp.Exp.{Exp}
use Rattle.std.specs.Prelude.{◌&&◌}
use Rattle.ur_typed_rules.specs.Lacking.{lacks_type}
use Rattle.ur_check_rules.specs.Written.{first_of_branches}
use Rattle.ur_check_rules.proofs.Lacks.{lacks-some, lacks-return, lacks-lambda, lacks-if, lacks-let, lacks-bind, lacks-seq, lacks-query, lacks-binary, lacks-case, lacks-past, lacks-found, lacks-end}
use Rattle.ur_check_rules.proofs.lacking.+lacking.Goals as goal

pub lacks_type-returns-in-Some : goal.lacks_type-returns-in-Some
lacks_type-returns-in-Some t c = c.lacks_type.ensures ∙ ap (λ (z : Exp). lacks_type z.form) c.get.ensures ∙ sym (ap lacks_type c.in-Some.is ∙ lacks-some c.in-Some.x)

pub lacks_type-returns-in-Return : goal.lacks_type-returns-in-Return
lacks_type-returns-in-Return t c = c.lacks_type-in-Return.ensures ∙ ap (λ (z : Exp). lacks_type z.form) c.get-in-Return.ensures ∙ sym (ap lacks_type c.in-Return.is ∙ lacks-return c.in-Return.x)

pub lacks_type-returns-in-Lambda : goal.lacks_type-returns-in-Lambda
lacks_type-returns-in-Lambda t c = c.lacks_type-in-Lambda.ensures ∙ ap (λ (z : Exp). lacks_type z.form) c.get-in-Lambda.ensures ∙ sym (ap lacks_type c.in-Lambda.is ∙ lacks-lambda c.in-Lambda.field-0 c.in-Lambda.x)

pub lacks_type-returns-in-If : goal.lacks_type-returns-in-If
lacks_type-returns-in-If t c = c.lacks_type-in-If.ensures ∙ ap (λ (z : Exp). lacks_type z.form) c.get-in-If.ensures ∙ sym (ap lacks_type c.in-If.is ∙ lacks-if c.in-If.field-0 c.in-If.x c.in-If.field-2)

pub lacks_type-returns-in-Let : goal.lacks_type-returns-in-Let
lacks_type-returns-in-Let t c = c.lacks_type-in-Let.ensures ∙ ap (λ (z : Exp). lacks_type z.form) c.get-in-Let.ensures ∙ sym (ap lacks_type c.in-Let.is ∙ lacks-let c.in-Let.field-0 c.in-Let.x)

pub lacks_type-returns-in-Bind : goal.lacks_type-returns-in-Bind
lacks_type-returns-in-Bind t c = c.lacks_type-in-Bind.ensures ∙ ap (λ (z : Exp). lacks_type z.form) c.get-in-Bind.ensures ∙ sym (ap lacks_type c.in-Bind.is ∙ lacks-bind c.in-Bind.field-0 c.in-Bind.field-1 c.in-Bind.x)

pub lacks_type-returns-in-Seq : goal.lacks_type-returns-in-Seq
lacks_type-returns-in-Seq t c = c.lacks_type-in-Seq.ensures ∙ ap (λ (z : Exp). lacks_type z.form) c.get-in-Seq.ensures ∙ sym (ap lacks_type c.in-Seq.is ∙ lacks-seq c.in-Seq.field-0 c.in-Seq.x)

pub lacks_type-returns-in-QueryX : goal.lacks_type-returns-in-QueryX
lacks_type-returns-in-QueryX t c = c.lacks_type-in-QueryX.ensures ∙ ap (λ (z : Exp). lacks_type z.form) c.get-in-QueryX.ensures ∙ sym (ap lacks_type c.in-QueryX.is ∙ lacks-query c.in-QueryX.field-0 c.in-QueryX.field-1 c.in-QueryX.f)

pub some_lacks_type-returns-then-lacks_type : goal.some_lacks_type-returns-then-lacks_type
some_lacks_type-returns-then-lacks_type t c = lacks-found c.args.fields.now c.loop-i.i c.index-fields-i.result c.lacks_type.result c.loop-i-test.true c.index-fields-i.is c.lacks_type.ensures c.if-lacks_type.true c.loop-i.invariant

pub some_lacks_type-loop-i-preserved : goal.some_lacks_type-loop-i-preserved
some_lacks_type-loop-i-preserved t c = lacks-past c.args.fields.now c.loop-i.i c.index-fields-i.result c.lacks_type.result c.loop-i-test.true c.index-fields-i.is c.lacks_type.ensures c.if-lacks_type.false c.loop-i.invariant

pub some_lacks_type-returns : goal.some_lacks_type-returns
some_lacks_type-returns t c = lacks-end c.args.fields.now c.loop-i.i c.loop-i-test.false c.loop-i.invariant

pub lacks_type-returns-then-is_cons : goal.lacks_type-returns-then-is_cons
lacks_type-returns-then-is_cons t c =
    let x : Exp = c.in-Binary.x in
    c.lacks_type-then-is_cons.ensures ∙ ap (λ (z : Exp). lacks_type z.form) c.get-then-is_cons.ensures ∙ sym (ap lacks_type c.in-Binary.is ∙ lacks-binary c.in-Binary.op x c.in-Binary.field-2 ∙ ap (λ z. z && lacks_type x.form) (sym c.is_cons.ensures ∙ c.if-is_cons.true))

pub lacks_type-returns-in-Case : goal.lacks_type-returns-in-Case
lacks_type-returns-in-Case t c = c.first_lacks_type.ensures ∙ ap first_of_branches c.as_slice-in-Case.ensures ∙ sym (ap lacks_type c.in-Case.is ∙ lacks-case c.in-Case.field-0 c.in-Case.branches)
