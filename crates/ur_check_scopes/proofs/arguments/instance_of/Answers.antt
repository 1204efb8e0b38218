use Rattle.std.proofs.Common.{◌<◌, ◌∙◌, ap, Err}
use Rattle.ur_rows.specs.Nodes.{type_nodes, most_nodes}
use Rattle.ur_rows.specs.Put.{instance_type}
use Rattle.ur_check_scopes.proofs.Giving.{halted-large}
use Rattle.ur_check_scopes.proofs.arguments.instance_of.Goals as goal

pub returns-in-Err-clause-refused : goal.returns-in-Err-clause-refused
returns-in-Err-clause-refused c =
    halted-large (most_nodes < type_nodes (instance_type c.args.args.now c.args.of.now)) c.in-Err.halt c.halted.result c.halted.ensures (λ e. c.instance_type.ensures.over (c.in-Err.is ∙ ap Err e))
