use Rattle.ur_sqltype.proofs.Steps.{truth-kinded}
use Rattle.ur_sqltype.proofs.constants.truth.Goals as goal

pub returns : goal.returns
returns c = truth-kinded c.args.within.now c.args.holds c.in_ok-made.made c.in_ok-made.ensures
