use Rattle.ur_typed_rules.proofs.Decided.{pages_decided}
use Rattle.ur_typed_rules.proofs.laws.pages_are_decided.Goals as goal

pub returns : goal.returns
returns c = pages_decided
