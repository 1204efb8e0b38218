use Rattle.ur_rows_normal.proofs.Normality.{arguments-drops}
use Rattle.ur_rows_normal.proofs.arguments.ArgumentsMeasured.drops.Goals as goal

pub returns : goal.returns
returns c = arguments-drops c.args.self.now.of.now c.args.depth c.args.v.now c.in_ok-row.row c.is_empty.result c.args.self.now.normal c.in_ok-row.ensures c.is_empty.ensures
