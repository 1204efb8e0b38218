-- An option is told with its type; what is none is the expression.
use Rattle.std.proofs.Common.{◌∙◌, sym, ap, subst, Option, Some, None}
use Rattle.std.specs.Prelude.{if◌then◌else◌, option_and_then}
use Rattle.ur_sql.specs.declared.scalar.Scalar.{Scalar}
use Rattle.ur_sqltype.specs.Faults.{TellsSql, misfit, three_kinds}
use Rattle.ur_sqltype.specs.Query.{if_basic}
use Rattle.ur_sqltype.specs.SqltypeFaults.{basic_faulty, is_option}
use Rattle.ur_sqltype.proofs.Exits.{refused-exit}
use Rattle.ur_sqltype.proofs.parts.basic_scalar.Goals as goal

pub returns-in_err-scalar-clause-refused : goal.returns-in_err-scalar-clause-refused
returns-in_err-scalar-clause-refused c =
    refused-exit c.from_residual.result c.in_err-scalar.field-0.0 c.from_residual.ensures.1 (λ r f. basic_faulty f) c.in_err-scalar.ensures.refused

pub returns-then-is_optional-clause-refused : goal.returns-then-is_optional-clause-refused
returns-then-is_optional-clause-refused c =
    is_option c.in_ok-scalar.scalar c.in_ok-scalar.kind c.in_ok-scalar.ensures.kinded (sym c.is_optional.ensures ∙ c.if-is_optional.true)
    (subst (λ z. TellsSql c.in_ok-misfit.field-0 (misfit z three_kinds)) c.kind_text.ensures c.in_ok-misfit.ensures)

pub returns-clause-typed : goal.returns-clause-typed
returns-clause-typed c =
    let made : Option Scalar = Some c.in_ok-scalar.scalar in
    ap (λ o. option_and_then if_basic o) c.in_ok-scalar.ensures.kinded ∙ ap (λ b. if b then None else made) (sym c.is_optional.ensures ∙ c.if-is_optional.false)
