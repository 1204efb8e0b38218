use Rattle.ur_rows_reduce.specs.Lifts.{Within}
use Rattle.ur_rows_reduce.proofs.Lifting.{fn-up}
use Rattle.ur_rows_reduce.proofs.putting.+normal_after.Goals as goal

pub returns-in_ok-lower-in-Fn : goal.returns-in_ok-lower-in-Fn
returns-in_ok-lower-in-Fn g t c = fn-up c.normal_after.result (Within (g.L.Lifts.levels c.args.how.now)) c.args.depth c.in_ok-deeper-in-Fn.field-0 c.in_ok-lower-in-Fn.field-0 c.args.levels
    c.args.n.now c.get.result.now c.in-Fn.c c.in-Fn.field-0 c.in-Fn.is c.get.ensures c.in_ok-deeper-in-Fn.ensures c.in_ok-lower-in-Fn.ensures c.normal_after.ensures
