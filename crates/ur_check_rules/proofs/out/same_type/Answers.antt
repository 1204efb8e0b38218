use Rattle.ur_check_rules.proofs.Settling.{types-told}
use Rattle.ur_check_rules.proofs.out.same_type.Goals as goal

pub returns : goal.returns
returns c = types-told c.equal_types.result c.args.a.now c.args.b.now c.equal_types.ensures
