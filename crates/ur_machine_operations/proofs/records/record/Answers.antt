use Rattle.ur_terms.specs.Values.{fields_of}
use Rattle.ur_machine_operations.proofs.Arguments.{comes_as, there}
use Rattle.ur_machine_operations.proofs.Doing.{does-Record}
use Rattle.ur_machine_operations.proofs.records.record.Goals as goal

pub fields_of-requires : goal.fields_of-requires
fields_of-requires c = there (fields_of c.args.names.now c.args.args) _ c.requires.1

pub returns-in-Ok : goal.returns-in-Ok
returns-in-Ok c = comes_as c.built.result (does-Record c.args.names.now c.args.args _ c.in-Ok.ensures) c.built.ensures
