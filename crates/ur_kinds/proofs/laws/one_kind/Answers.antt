use Rattle.ur_kinds.proofs.Infer.{one-kind}
use Rattle.ur_kinds.proofs.laws.one_kind.Goals as goal

pub returns : goal.returns
returns c = one-kind
