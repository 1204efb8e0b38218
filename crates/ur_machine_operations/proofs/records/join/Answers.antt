use Rattle.ur_terms.specs.Values.{as_fields}
use Rattle.ur_machine_operations.proofs.Arguments.{comes_as}
use Rattle.ur_machine_operations.proofs.Doing.{first_there, both_there, does-Join}
use Rattle.ur_machine_operations.proofs.records.join.Goals as goal

pub two-a-requires : goal.two-a-requires
two-a-requires c = (_, c.requires.1)

pub into_fields-requires : goal.into_fields-requires
into_fields-requires c = first_there as_fields _ _ _ _ c.requires.1 c.two-a.ensures

pub into_fields-requires-2 : goal.into_fields-requires-2
into_fields-requires-2 c = both_there as_fields _ _ _ _ c.requires.1 c.two-a.ensures

pub returns-in-Ok : goal.returns-in-Ok
returns-in-Ok c = comes_as c.built.result (does-Join _ _ _ _ _ _ c.two-a.ensures c.into_fields.ensures c.into_fields-2.ensures c.in-Ok.ensures) c.built.ensures
