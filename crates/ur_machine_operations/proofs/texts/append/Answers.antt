use Rattle.ur_terms.specs.Values.{as_text}
use Rattle.ur_machine_operations.proofs.Arguments.{comes_as}
use Rattle.ur_machine_operations.proofs.Doing.{first_there, both_there, does-Append}
use Rattle.ur_machine_operations.proofs.texts.append.Goals as goal

pub two-a-requires : goal.two-a-requires
two-a-requires c = (_, c.requires.1)

pub into_text-text-requires : goal.into_text-text-requires
into_text-text-requires c = first_there as_text _ _ _ _ c.requires.1 c.two-a.ensures

pub into_text-requires : goal.into_text-requires
into_text-requires c = both_there as_text _ _ _ _ c.requires.1 c.two-a.ensures

pub returns-in-Ok : goal.returns-in-Ok
returns-in-Ok c = comes_as c.built.result (does-Append _ _ _ _ _ _ c.two-a.ensures c.into_text-text.ensures c.into_text.ensures c.in-Ok.ensures.ok) c.built.ensures
