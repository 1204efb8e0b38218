use Rattle.ur_rows_reduce.proofs.Holding.{applied-shape}
use Rattle.ur_rows_reduce.proofs.given.shape_applied.Goals as goal

pub returns-in-Fn : goal.returns-in-Fn
returns-in-Fn c = applied-shape c.args.f.now c.in-Fn.c c.get.result.now c.in-Fn.field-0 c.shape.result c.in-Fn.is c.get.ensures c.shape.ensures
