use Rattle.ur_typed_rules.proofs.Rows.{arguments_decided}
use Rattle.ur_typed_rules.proofs.laws.arguments_are_decided.Goals as goal

pub returns : goal.returns
returns c = arguments_decided
