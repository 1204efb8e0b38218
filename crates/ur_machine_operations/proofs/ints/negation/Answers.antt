use Rattle.ur_terms.specs.Values.{as_bool}
use Rattle.ur_machine_operations.proofs.Doing.{only_there, does-Not}
use Rattle.ur_machine_operations.proofs.ints.negation.Goals as goal

pub one-requires : goal.one-requires
one-requires c = (_, c.requires.1)

pub into_bool-truth-requires : goal.into_bool-truth-requires
into_bool-truth-requires c = only_there as_bool _ _ _ c.requires.1 c.one.ensures

pub returns : goal.returns
returns c = does-Not _ _ _ c.one.ensures c.into_bool-truth.ensures
