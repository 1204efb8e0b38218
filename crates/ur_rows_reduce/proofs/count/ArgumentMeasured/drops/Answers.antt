use Rattle.ur_rows_reduce.proofs.After.{argument-drops}
use Rattle.ur_rows_reduce.proofs.count.ArgumentMeasured.drops.Goals as goal

pub returns : goal.returns
returns c = argument-drops c.args.self.now.of.now c.args.depth c.args.v.now c.in_ok-row.row c.is_empty.result c.in_ok-row.ensures c.is_empty.ensures
