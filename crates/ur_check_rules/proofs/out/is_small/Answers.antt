use Rattle.ur_rows.specs.Nodes.{type_nodes}
use Rattle.ur_check_rules.proofs.Settling.{small-told}
use Rattle.ur_check_rules.proofs.out.is_small.Goals as goal

pub returns : goal.returns
returns c = small-told c.left_of_type.result (type_nodes c.args.of.now) 65536 c.is_some.result c.left_of_type.ensures c.is_some.ensures
