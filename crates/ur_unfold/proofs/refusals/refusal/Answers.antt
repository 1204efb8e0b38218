use Rattle.std.proofs.Common.{refl}
use Rattle.ur_unfold.proofs.refusals.refusal.Goals as goal

pub returns : goal.returns
returns c = (_, refl, (refl, refl, c.in_ok-right.ensures))
