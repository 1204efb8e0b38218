use Rattle.ur_kinds.proofs.Infer.{kinded-known}
use Rattle.ur_kinds.proofs.laws.kinded_is_known.Goals as goal

pub returns : goal.returns
returns c = kinded-known
