use Rattle.ur_check_walk.proofs.Linking.{stray-told}
use Rattle.ur_check_walk.proofs.targets.may_name.Goals as goal

pub returns-clause-refused : goal.returns-clause-refused
returns-clause-refused c = stray-told c.args.around.now c.args.name.now c.is_label.result c.unkinded.result c.if-is_label.false c.is_label.ensures c.unkinded.ensures
