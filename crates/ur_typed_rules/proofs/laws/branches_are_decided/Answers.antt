use Rattle.ur_typed_rules.proofs.Decided.{branches_decided}
use Rattle.ur_typed_rules.proofs.laws.branches_are_decided.Goals as goal

pub returns : goal.returns
returns c = branches_decided
