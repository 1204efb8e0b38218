use Rattle.std.proofs.Common.{◌∙◌, sym, subst, codes}
use Rattle.ur_sqltype.specs.Faults.{TellsSql, misfit, null_given, value_given}
use Rattle.ur_sqltype.proofs.Steps.{refused-along}
use Rattle.ur_sqltype.proofs.values.value_of_kind.Goals as goal

pub returns-then-not-is_null-clause-refused : goal.returns-then-not-is_null-clause-refused
returns-then-not-is_null-clause-refused c =
    refused-along c.of_kind.result (λ r m. value_given (sym c.is_null.ensures ∙ c.if-not-is_null.true) m) c.of_kind.ensures.refused

pub returns-then-not-is_optional-clause-refused : goal.returns-then-not-is_optional-clause-refused
returns-then-not-is_optional-clause-refused c =
    null_given (sym c.is_null.ensures ∙ c.if-not-is_null.false) (sym c.is_optional.ensures ∙ c.if-not-is_optional.true)
    (subst (λ z. TellsSql c.in_ok-misfit.field-0 (misfit (codes "NULL") z)) c.kind_text.ensures c.in_ok-misfit.ensures)
