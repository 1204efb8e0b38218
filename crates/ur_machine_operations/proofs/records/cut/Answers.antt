use Rattle.ur_terms.specs.Values.{as_fields}
use Rattle.ur_machine_operations.proofs.Doing.{only_there, does-Cut}
use Rattle.ur_machine_operations.proofs.records.cut.Goals as goal

pub one-requires : goal.one-requires
one-requires c = (_, c.requires.1)

pub into_fields-requires : goal.into_fields-requires
into_fields-requires c = only_there as_fields _ _ _ c.requires.1 c.one.ensures

pub returns : goal.returns
returns c = does-Cut _ _ _ _ _ c.one.ensures c.into_fields.ensures c.without_field.ensures
