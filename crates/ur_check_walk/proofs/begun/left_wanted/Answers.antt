use Rattle.std.specs.Option.{option_copied}
use Rattle.std.proofs.Common.{◌≡◌, ap, ◌∙◌}
use Rattle.ur_tree.specs.Typing.{operation}
use Rattle.ur_typed.specs.Rules.{operator_of, left_mode}
use Rattle.ur_check_scopes.specs.Views.{mode_of}
use Rattle.ur_check_rules.specs.Views.{operation_in}
use Rattle.ur_check_walk.proofs.begun.left_wanted.Goals as goal

pub returns : goal.returns
returns c =
    let is : operation_in c.operation_of-asked.result ≡ operation (operator_of c.args.op) = c.operation_of-asked.ensures ∙ ap operation c.operator_of.ensures in
    c.in_ok-inside.ensures ∙ c.left_mode.ensures ∙ ap (λ z. left_mode z (mode_of (option_copied c.args.wanted))) is
