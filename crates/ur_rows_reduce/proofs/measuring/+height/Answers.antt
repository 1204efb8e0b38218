use Rattle.ur_rows_reduce.proofs.Heights.{one-higher, fn-height}
use Rattle.ur_rows_reduce.proofs.measuring.+height.Goals as goal

pub returns-in_ok-inner-in-Fn : goal.returns-in_ok-inner-in-Fn
returns-in_ok-inner-in-Fn t c = one-higher c.in_ok-inner-in-Fn.inner c.in_ok-lower-in-Fn.field-0 c.args.levels _ _ c.in_ok-lower-in-Fn.ensures c.in_ok-inner-in-Fn.ensures
    (fn-height c.args.n.now c.in-Fn.c c.get.result.now c.in-Fn.field-0 c.in-Fn.is c.get.ensures)
