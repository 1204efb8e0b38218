use Rattle.ur_terms.specs.Ops.{optional_text}
use Rattle.std.proofs.Common.{◌∙◌}
use Rattle.ur_machine_operations.proofs.Arguments.{comes_as, there}
use Rattle.ur_machine_operations.proofs.Doing.{does-Input}
use Rattle.ur_machine_operations.proofs.markup.input.Goals as goal

pub optional_text-value-requires : goal.optional_text-value-requires
optional_text-value-requires c = there (optional_text c.args.args) _ c.requires.1

pub returns-in-Ok : goal.returns-in-Ok
returns-in-Ok c = comes_as c.of_node.result (does-Input c.args.kind c.args.number _ _ _ _ c.optional_text-value.ensures (c.in-Ok.ensures ∙ c.as_slice.ensures)) c.of_node.ensures
