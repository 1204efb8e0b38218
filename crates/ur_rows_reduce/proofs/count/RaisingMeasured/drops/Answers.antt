use Rattle.std.proofs.Common.{suc}
use Rattle.ur_rows.specs.Put.{raising, raised_var, put_type}
use Rattle.ur_rows_reduce.proofs.After.{keeps-one}
use Rattle.ur_rows_reduce.proofs.count.RaisingMeasured.drops.Goals as goal

pub returns : goal.returns
returns c = λ f. keeps-one (put_type (raising c.args.self.now.by) (suc c.args._depth) f) (raised_var c.args.self.now.by c.args._depth c.args._v.now)
