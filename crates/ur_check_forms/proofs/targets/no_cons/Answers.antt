use Rattle.ur_check_forms.proofs.Aiming.{no-cons-said}
use Rattle.ur_check_forms.proofs.targets.no_cons.Goals as goal

pub returns : goal.returns
returns c = no-cons-said c.is_empty.result c.args.cons.now c.is_empty.ensures
