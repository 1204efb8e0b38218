use Rattle.std.proofs.Common.{◌≡◌, ap, sym, ◌∙◌}
use Rattle.ur_tree.specs.Typing.{operation}
use Rattle.ur_typed.specs.Rules.{left_may}
use Rattle.ur_check_rules.specs.Views.{operation_in}
use Rattle.ur_check_walk.specs.Leading.{asks_of}
use Rattle.ur_check_walk.proofs.Leading.{left-may-not}
use Rattle.ur_check_walk.proofs.closed.may_stand.Goals as goal

pub returns-then-left_may-clause-ok : goal.returns-then-left_may-clause-ok
returns-then-left_may-clause-ok c =
    let is : operation_in c.operation_of-asked.result ≡ asks_of c.args.sides = c.operation_of-asked.ensures ∙ ap operation c.operator_of.ensures in
    ap (λ z. left_may z c.args.left.now.of) (sym is) ∙ sym c.left_may.ensures ∙ c.if-left_may.true

pub returns-clause-refused : goal.returns-clause-refused
returns-clause-refused c =
    let is : operation_in c.operation_of-asked.result ≡ asks_of c.args.sides = c.operation_of-asked.ensures ∙ ap operation c.operator_of.ensures in
    left-may-not c.args.around.now c.args.sides c.args.left.now c.not_compared.result (ap (λ z. left_may z c.args.left.now.of) (sym is) ∙ sym c.left_may.ensures ∙ c.if-left_may.false) c.not_compared.ensures
