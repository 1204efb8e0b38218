use Rattle.std.proofs.Common.{ap, ◌∙◌, ◌++◌}
use Rattle.ur_tree.specs.FieldNames.{of_modules}
use Rattle.ur_check.proofs.Ordering.{occurs-in}
use Rattle.ur_check.proofs.order.field_names.Goals as goal

pub returns-clause-occur : goal.returns-clause-occur
returns-clause-occur c =
    occurs-in c.in_ok-ordered.ordered _ (of_modules c.args.all.now) (c.in_ok-modules.ensures ∙ ap (λ z. z ++ of_modules c.args.all.now) c.new-names.ensures) c.in_ok-ordered.ensures.same
