use Rattle.ur_check_forms.proofs.Aiming.{unit-said}
use Rattle.ur_check_forms.proofs.targets.is_unit.Goals as goal

pub returns : goal.returns
returns c = unit-said c.is_empty.result c.args.row.now c.is_empty.ensures
