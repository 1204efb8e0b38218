use Rattle.ur_typed_rules.proofs.Rows.{told}
use Rattle.ur_typed_rules.proofs.laws.types_are_told.Goals as goal

pub returns : goal.returns
returns c = told
