use Rattle.std.proofs.Common.{refl}
use Rattle.ur_machine_operations.proofs.Arguments.{comes_as}
use Rattle.ur_machine_operations.proofs.Doing.{does-Submit, button_label}
use Rattle.ur_machine_operations.proofs.markup.submit.Goals as goal

pub with_label-args-requires : goal.with_label-args-requires
with_label-args-requires c = button_label c.args.route c.args.count c.args.unit c.args.args _ c.requires.0 c.requires.1 refl

pub returns-in-Ok : goal.returns-in-Ok
returns-in-Ok c = comes_as c.of_node.result (does-Submit _ _ _ _ _ _ _ _ c.with_label-args.ensures.front refl c.in-Ok.ensures c.with_label-args.ensures.label) c.of_node.ensures
