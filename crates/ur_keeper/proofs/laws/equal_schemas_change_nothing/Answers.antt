use Rattle.ur_keeper.proofs.Grown.{same-schema}
use Rattle.ur_keeper.proofs.laws.equal_schemas_change_nothing.Goals as goal

pub returns : goal.returns
returns c = same-schema
