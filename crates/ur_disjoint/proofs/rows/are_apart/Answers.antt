use Rattle.ur_disjoint.proofs.Decided.{all_apart-decides}
use Rattle.ur_disjoint.proofs.rows.are_apart.Goals as goal

pub returns : goal.returns
returns c = all_apart-decides c.args.assumed.now c.args.row.now c.all_apart.result c.all_apart.ensures
