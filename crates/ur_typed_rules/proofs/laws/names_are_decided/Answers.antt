use Rattle.ur_typed_rules.proofs.Decided.{names_decided}
use Rattle.ur_typed_rules.proofs.laws.names_are_decided.Goals as goal

pub returns : goal.returns
returns c = names_decided
