use Rattle.std.proofs.Common.{◌∙◌, sym, subst}
use Rattle.ur_syntax.specs.declared.sql.SqlForm.TheVariants as form
use Rattle.ur_sqltype.specs.Faults.{TellsSql, misfit, kind_text, two_kinds, three_kinds, faulty, other_kind, of_not, of_negative, wants_not, wants_negative, null_first, null_last}
use Rattle.ur_sqltype.proofs.Faultless.{not_same, with_join, with_comparison}
use Rattle.ur_sqltype.proofs.Sizes.{binary_smaller, not_smaller, negative_smaller, is_null_smaller, is_not_null_smaller, some_smaller}
use Rattle.ur_sqltype.proofs.Steps.{refused-exit, refused-along, ok-along, misfit-within, left-misfit, right-misfit, other-misfit, left-fault, unordered-fault, not-kinded, negative-kinded, is_null-kinded, is_null-test, is_not_null-kinded, is_not_null-test, alone-fault, null-fault, no-option-fault, some-fault, no-basic-fault, some-kinded}
use Rattle.ur_sqltype.proofs.expression.+kinding.Goals as goal

-- ---- calls of less

pub exp_kind-operation-requires : goal.exp_kind-operation-requires
exp_kind-operation-requires t c = (binary_smaller c.args.e.now.form c.in-Binary.o c.in-Binary.a c.in-Binary.b c.get.result.now c.get-in-Binary.result.now t c.decreases c.in-Binary.is c.get.ensures c.get-in-Binary.ensures, tt)

pub exp_kind-negation-requires : goal.exp_kind-negation-requires
exp_kind-negation-requires t c = (not_smaller c.args.e.now.form c.in-Not.a c.get-in-Not.result.now t c.decreases c.in-Not.is c.get-in-Not.ensures, tt)

pub exp_kind-minus-requires : goal.exp_kind-minus-requires
exp_kind-minus-requires t c = (negative_smaller c.args.e.now.form c.in-Negative.a c.get-in-Negative.result.now t c.decreases c.in-Negative.is c.get-in-Negative.ensures, tt)

-- ---- NULL and options

pub exp_kind-null_compared-requires : goal.exp_kind-null_compared-requires
exp_kind-null_compared-requires t c =
    (is_null_smaller c.args.e.now.form c.in-IsNull.a c.get-in-IsNull.result.now t c.decreases c.in-IsNull.is c.get-in-IsNull.ensures, tt)

pub exp_kind-null_compared-requires-in-IsNotNull : goal.exp_kind-null_compared-requires-in-IsNotNull
exp_kind-null_compared-requires-in-IsNotNull t c =
    (is_not_null_smaller c.args.e.now.form c.in-IsNotNull.a c.get-in-IsNotNull.result.now t c.decreases c.in-IsNotNull.is c.get-in-IsNotNull.ensures, tt)

pub exp_kind-some-requires : goal.exp_kind-some-requires
exp_kind-some-requires t c = (some_smaller c.args.e.now.form c.in-Some.a c.get-in-Some.result.now t c.decreases c.in-Some.is c.get-in-Some.ensures, tt)

pub exp_kind-returns-in-IsNull-clause-kinded : goal.exp_kind-returns-in-IsNull-clause-kinded
exp_kind-returns-in-IsNull-clause-kinded t c =
    ok-along c.null_compared.result (λ o h. is_null-kinded c.args.within.now c.args.e.now.form c.in-IsNull.a c.get-in-IsNull.result.now o c.in-IsNull.is
    c.get-in-IsNull.ensures h) c.null_compared.ensures.kinded

pub exp_kind-returns-in-IsNull-clause-refused : goal.exp_kind-returns-in-IsNull-clause-refused
exp_kind-returns-in-IsNull-clause-refused t c =
    refused-along c.null_compared.result (λ r h. h c.args.e.now.form
    (is_null-test c.args.e.now.form c.in-IsNull.a c.get-in-IsNull.result.now c.in-IsNull.is c.get-in-IsNull.ensures)) c.null_compared.ensures.refused

pub exp_kind-returns-in-IsNotNull-clause-kinded : goal.exp_kind-returns-in-IsNotNull-clause-kinded
exp_kind-returns-in-IsNotNull-clause-kinded t c =
    ok-along c.null_compared-in-IsNotNull.result
    (λ o h. is_not_null-kinded c.args.within.now c.args.e.now.form c.in-IsNotNull.a c.get-in-IsNotNull.result.now o c.in-IsNotNull.is
    c.get-in-IsNotNull.ensures h) c.null_compared-in-IsNotNull.ensures.kinded

pub exp_kind-returns-in-IsNotNull-clause-refused : goal.exp_kind-returns-in-IsNotNull-clause-refused
exp_kind-returns-in-IsNotNull-clause-refused t c =
    refused-along c.null_compared-in-IsNotNull.result
    (λ r h. h c.args.e.now.form (is_not_null-test c.args.e.now.form c.in-IsNotNull.a c.get-in-IsNotNull.result.now c.in-IsNotNull.is
    c.get-in-IsNotNull.ensures)) c.null_compared-in-IsNotNull.ensures.refused

pub exp_kind-returns-in_ok-misfit-in-Null-clause-refused : goal.exp_kind-returns-in_ok-misfit-in-Null-clause-refused
exp_kind-returns-in_ok-misfit-in-Null-clause-refused t c =
    alone-fault c.args.within.now c.args.e.now.form c.in_ok-misfit-in-Null.field-0 c.in-Null.is c.in_ok-misfit-in-Null.ensures

pub equating-returns-then-is_null-clause-refused : goal.equating-returns-then-is_null-clause-refused
equating-returns-then-is_null-clause-refused t c =
    refused-along c.null_compared.result
    (λ r h o d. h (form.Binary o c.args.a.now c.args.b.now)
    (null_first o c.args.c c.args.a.now c.args.b.now d (sym c.is_equality.ensures ∙ c.if-not-is_equality.false)
    (sym c.is_null.ensures ∙ c.if-is_null.true))) c.null_compared.ensures.refused

pub equating-returns-then-is_null-2-clause-refused : goal.equating-returns-then-is_null-2-clause-refused
equating-returns-then-is_null-2-clause-refused t c =
    refused-along c.null_compared-then-is_null-2.result
    (λ r h o d. h (form.Binary o c.args.a.now c.args.b.now)
    (null_last o c.args.c c.args.a.now c.args.b.now d (sym c.is_equality.ensures ∙ c.if-not-is_equality.false) (sym c.is_null.ensures ∙ c.if-is_null.false)
    (sym c.is_null-2.ensures ∙ c.if-is_null-2.true)))
    c.null_compared-then-is_null-2.ensures.refused

pub null_compared-returns-in_err-of-clause-refused : goal.null_compared-returns-in_err-of-clause-refused
null_compared-returns-in_err-of-clause-refused t c =
    refused-exit c.from_residual.result c.in_err-of.field-0.0 c.from_residual.ensures.1
    (null-fault c.args.within.now c.args.c c.args.first c.args.beside c.args.a.now) c.in_err-of.ensures.refused

pub null_compared-returns-then-not-is_optional-clause-refused : goal.null_compared-returns-then-not-is_optional-clause-refused
null_compared-returns-then-not-is_optional-clause-refused t c =
    no-option-fault c.args.within.now c.args.c c.args.first c.args.beside c.args.a.now c.in_ok-of.of c.in_ok-of.kind c.in_ok-no_option.field-0
    c.in_ok-of.ensures.kinded (sym c.is_optional.ensures ∙ c.if-not-is_optional.true) c.in_ok-no_option.ensures

pub some-returns-in_err-of-clause-refused : goal.some-returns-in_err-of-clause-refused
some-returns-in_err-of-clause-refused t c =
    refused-exit c.from_residual.result c.in_err-of.field-0.0 c.from_residual.ensures.1 (some-fault c.args.within.now c.args.a.now)
    c.in_err-of.ensures.refused

pub some-returns-in_ok-refusal-in-None-clause-refused : goal.some-returns-in_ok-refusal-in-None-clause-refused
some-returns-in_ok-refusal-in-None-clause-refused t c =
    no-basic-fault c.args.within.now c.args.a.now c.in_ok-of.of c.in_ok-of.kind c.in_ok-refusal-in-None.refusal c.in_ok-of.ensures.kinded
    (sym c.optional.ensures ∙ c.in-None.is)
    (subst (λ z. TellsSql c.in_ok-refusal-in-None.refusal (misfit z three_kinds)) c.kind_text.ensures c.in_ok-refusal-in-None.ensures)

pub some-returns-in_ok-made-in-Some-clause-kinded : goal.some-returns-in_ok-made-in-Some-clause-kinded
some-returns-in_ok-made-in-Some-clause-kinded t c =
    some-kinded c.args.within.now c.args.a.now c.in_ok-of.of c.in_ok-made-in-Some.made c.in_ok-of.kind c.in-Some.optional c.in_ok-of.ensures.kinded
    (sym c.optional.ensures ∙ c.in-Some.is) c.in_ok-made-in-Some.ensures

-- ---- what is of a kind

pub of_kind-returns-in_err-of-clause-refused : goal.of_kind-returns-in_err-of-clause-refused
of_kind-returns-in_err-of-clause-refused t c = refused-exit c.from_residual.result c.in_err-of.field-0.0 c.from_residual.ensures.1 (λ r f. faulty f) c.in_err-of.ensures.refused

pub of_kind-returns-clause-refused : goal.of_kind-returns-clause-refused
of_kind-returns-clause-refused t c = other_kind c.in_ok-of.ensures.kinded (not_same _ _ (sym c.same_kind.ensures ∙ c.if-same_kind.false))
    (subst (λ z. TellsSql c.in_ok-misfit.field-0 (misfit z (kind_text c.args.wanted))) c.kind_text.ensures (subst (λ z. TellsSql c.in_ok-misfit.field-0 (misfit c.kind_text.result.now z)) c.kind_text-2.ensures c.in_ok-misfit.ensures))

-- ---- operators

pub operation-returns-in-Joins-clause-kinded : goal.operation-returns-in-Joins-clause-kinded
operation-returns-in-Joins-clause-kinded t c =
    ok-along c.joining.result (λ r h. with_join c.args.within.now c.args.o.now c.in-Joins.join c.args.a.now c.args.b.now (sym c.operator_of.ensures ∙ c.in-Joins.is) ∙ h) c.joining.ensures.kinded

pub operation-returns-in-Compares-clause-kinded : goal.operation-returns-in-Compares-clause-kinded
operation-returns-in-Compares-clause-kinded t c =
    ok-along c.equating.result (λ r h. with_comparison c.args.within.now c.args.o.now c.in-Compares.c c.args.a.now c.args.b.now
    (sym c.operator_of.ensures ∙ c.in-Compares.is) ∙ h) c.equating.ensures.kinded

pub joining-returns-in_err-left-clause-refused : goal.joining-returns-in_err-left-clause-refused
joining-returns-in_err-left-clause-refused t c =
    refused-exit c.from_residual.result c.in_err-left.field-0.0 c.from_residual.ensures.1 (left-misfit c.args.within.now c.args.join c.args.a.now c.args.b.now c.side_kind-kind.result c.side_kind-kind.ensures) c.in_err-left.ensures.refused

pub joining-returns-in_err-right-clause-refused : goal.joining-returns-in_err-right-clause-refused
joining-returns-in_err-right-clause-refused t c =
    refused-exit c.from_residual-in_err-right.result c.in_err-right.field-0.0 c.from_residual-in_err-right.ensures.1 (right-misfit c.args.within.now c.args.join c.args.a.now c.args.b.now c.side_kind-kind.result c.side_kind-kind.ensures) c.in_err-right.ensures.refused

pub comparing-returns-in_err-left-clause-refused : goal.comparing-returns-in_err-left-clause-refused
comparing-returns-in_err-left-clause-refused t c =
    refused-exit c.from_residual.result c.in_err-left.field-0.0 c.from_residual.ensures.1 (left-fault c.args.within.now c.args.c c.args.a.now c.args.b.now)
    c.in_err-left.ensures.refused

pub comparing-returns-then-not-may_compare-clause-refused : goal.comparing-returns-then-not-may_compare-clause-refused
comparing-returns-then-not-may_compare-clause-refused t c =
    unordered-fault c.args.within.now c.args.c c.args.a.now c.args.b.now c.in_ok-left.left c.in_ok-left.kind c.in_ok-misfit.field-0 c.in_ok-left.ensures.kinded (sym c.may_compare.ensures ∙ c.if-not-may_compare.true)
    (subst (λ z. TellsSql c.in_ok-misfit.field-0 (misfit z two_kinds)) c.kind_text.ensures c.in_ok-misfit.ensures)

pub comparing-returns-in_err-right-clause-refused : goal.comparing-returns-in_err-right-clause-refused
comparing-returns-in_err-right-clause-refused t c =
    refused-exit c.from_residual-in_err-right.result c.in_err-right.field-0.0 c.from_residual-in_err-right.ensures.1 (other-misfit c.args.within.now c.args.c c.args.a.now c.args.b.now c.in_ok-left.left c.in_ok-left.kind c.in_ok-left.ensures.kinded) c.in_err-right.ensures.refused

-- ---- one operand

pub negation-returns-in_err-of-clause-refused : goal.negation-returns-in_err-of-clause-refused
negation-returns-in_err-of-clause-refused t c = refused-exit c.from_residual.result c.in_err-of.field-0.0 c.from_residual.ensures.1 (misfit-within (of_not c.args.a.now) (wants_not c.args.a.now)) c.in_err-of.ensures.refused

pub negation-returns-clause-kinded : goal.negation-returns-clause-kinded
negation-returns-clause-kinded t c = not-kinded c.args.within.now c.args.a.now c.in_ok-of.of c.in_ok-made.made c.in_ok-of.ensures.kinded c.in_ok-made.ensures

pub minus-returns-in_err-of-clause-refused : goal.minus-returns-in_err-of-clause-refused
minus-returns-in_err-of-clause-refused t c = refused-exit c.from_residual.result c.in_err-of.field-0.0 c.from_residual.ensures.1 (misfit-within (of_negative c.args.a.now) (wants_negative c.args.a.now)) c.in_err-of.ensures.refused

pub minus-returns-clause-kinded : goal.minus-returns-clause-kinded
minus-returns-clause-kinded t c = negative-kinded c.args.within.now c.args.a.now c.in_ok-of.of c.in_ok-made.made c.in_ok-of.ensures.kinded c.in_ok-made.ensures
