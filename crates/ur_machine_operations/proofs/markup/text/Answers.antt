use Rattle.std.proofs.Common.{◌∙◌}
use Rattle.ur_machine_operations.proofs.Arguments.{comes_as}
use Rattle.ur_machine_operations.proofs.Doing.{does-Text}
use Rattle.ur_machine_operations.proofs.markup.text.Goals as goal

pub returns-in-Ok : goal.returns-in-Ok
returns-in-Ok c = comes_as c.of_node.result (does-Text _ _ (c.in-Ok.ensures ∙ c.as_slice.ensures)) c.of_node.ensures
