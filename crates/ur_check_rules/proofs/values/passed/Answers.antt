use Rattle.std.proofs.Common.{◌∙◌}
use Rattle.ur_check_scopes.proofs.Exits.{refused-exit}
use Rattle.ur_check_rules.proofs.values.passed.Goals as goal

pub returns-clause-passed : goal.returns-clause-passed
returns-clause-passed c = λ w s st k e. c.in_ok-of.ensures.passed w s st k e ∙ c.in_ok-made.ensures st

pub returns-in_err-of-clause-refused : goal.returns-in_err-of-clause-refused
returns-in_err-of-clause-refused c = refused-exit c.from_residual.result c.in_err-of.field-0.0 c.from_residual.ensures.1 (λ r h. h) c.in_err-of.ensures.refused
