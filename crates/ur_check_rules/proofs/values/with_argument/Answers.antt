use Rattle.std.proofs.Common.{ap, ◌∙◌}
use Rattle.ur_rows_normal.specs.Arguments.{are_normal}
use Rattle.ur_check_rules.proofs.CalleesCalled.{ordered-given}
use Rattle.ur_check_rules.proofs.values.with_argument.Goals as goal

pub returns-clause-ordered : goal.returns-clause-ordered
returns-clause-ordered c = λ w s k e. ap are_normal c.in_ok-push-2.ensures.ok ∙ ordered-given c.args.around.now c.in_ok-form.form c.args.applied.args c.in_ok-form.ensures.in_order w s k e
