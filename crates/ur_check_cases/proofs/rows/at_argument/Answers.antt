use Rattle.std.proofs.Common.{◌∙◌, ap, Err}
use Rattle.ur_rows.specs.Nodes.{type_nodes}
use Rattle.ur_rows.specs.Put.{argument, put_type}
use Rattle.ur_check_cases.proofs.Folding.{halted-told}
use Rattle.ur_check_cases.proofs.rows.at_argument.Goals as goal

pub returns-in-Err-clause-refused : goal.returns-in-Err-clause-refused
returns-in-Err-clause-refused c =
    halted-told c.in-Err.halt c.halted.result (type_nodes (put_type (argument c.args.arg.now) 0 c.args.of.now)) c.halted.ensures (λ e. c.put_type_within.ensures.over (c.in-Err.is ∙ ap Err e))
