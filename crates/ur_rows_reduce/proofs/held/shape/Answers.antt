use Rattle.ur_rows_reduce.proofs.Holding.{shape-function}
use Rattle.ur_rows_reduce.proofs.held.shape.Goals as goal

pub returns-in-Type-get : goal.returns-in-Type-get
returns-in-Type-get c = shape-function c.args.n.now c.in-Fn.c c.get.result.now c.in-Fn.field-0 _ c.in-Fn.is c.get.ensures c.in-Type-get.is
