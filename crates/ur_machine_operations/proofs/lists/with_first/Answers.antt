use Rattle.ur_machine_operations.proofs.Fields.{ok_as, at_front}
use Rattle.ur_machine_operations.proofs.lists.with_first.Goals as goal

pub returns : goal.returns
returns c = ok_as c.with_item.result _ _ (at_front c.args.items c.args.item) c.with_item.ensures
