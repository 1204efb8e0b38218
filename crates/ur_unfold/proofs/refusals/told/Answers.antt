use Rattle.std.proofs.Common.{subst}
use Rattle.ur_unfold.specs.Unfolding.{EndsAs}
use Rattle.ur_unfold.proofs.Refusing.{tells_many}
use Rattle.ur_unfold.proofs.refusals.told.Goals as goal

pub returns-in-Instances : goal.returns-in-Instances
returns-in-Instances c = λ ends. tells_many c.args.typed.now c.in-Instances.function c.too_many.result (subst (EndsAs c.args.typed.now) c.in-Instances.is ends) c.too_many.ensures
