use Rattle.std.proofs.Common.{suc}
use Rattle.ur_rows.specs.Put.{type_at, nearer, put_type}
use Rattle.ur_rows_reduce.proofs.After.{keeps-one}
use Rattle.ur_rows_reduce.proofs.count.TypeAtMeasured.drops.Goals as goal

pub returns : goal.returns
returns c = λ f. keeps-one (put_type (type_at c.args.self.now.by c.args.self.now.of.now) (suc c.args._depth) f) (nearer c.args.self.now.by c.args._depth c.args._v.now)
