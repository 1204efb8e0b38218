use Rattle.std.proofs.Common.{◌++◌, ◌∷◌, [], ap, ◌∙◌}
use Rattle.ur_machine_operations.proofs.Arguments.{one_left, none_is_few}
use Rattle.ur_machine_operations.proofs.operands.two.Goals as goal

pub one-requires : goal.one-requires
one-requires c = (λ x. c.requires.0 x c.in-Some.second, one_left _ _ _ c.requires.0 c.requires.1 c.in-Some.ensures)

pub unreachable-requires : goal.unreachable-requires
unreachable-requires c = none_is_few _ c.requires.0 c.requires.1 c.in-None.ensures.0

pub returns : goal.returns
returns c = c.in-Some.ensures ∙ ap (λ l. l ++ c.in-Some.second ∷ []) c.one.ensures
