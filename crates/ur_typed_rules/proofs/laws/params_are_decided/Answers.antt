use Rattle.ur_typed_rules.proofs.Decided.{params_decided}
use Rattle.ur_typed_rules.proofs.laws.params_are_decided.Goals as goal

pub returns : goal.returns
returns c = params_decided
