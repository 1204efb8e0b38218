use Rattle.ur_check_heads.proofs.Forming.{unit-is}
use Rattle.ur_check_heads.proofs.arguments.param_of.Goals as goal

pub returns-in-Record : goal.returns-in-Record
returns-in-Record c = unit-is c.args.of.now c.in-Record.row c.unit_param.result c.in-Record.is c.unit_param.ensures
