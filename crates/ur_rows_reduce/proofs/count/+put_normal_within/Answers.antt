use Rattle.std.proofs.Common.{arith}
use Rattle.std.proofs.lemmas.Grind.{common_steps}
use Rattle.ur_rows.proofs.PutMade.{fn-is}
use Rattle.ur_rows_reduce.proofs.After.{fn-whole}
use Rattle.ur_rows_reduce.proofs.count.+put_normal_within.Goals as goal

pub returns-in_err-made-in-Fn-clause-over : goal.returns-in_err-made-in-Fn-clause-over
returns-in_err-made-in-Fn-clause-over g t c =
    let e = fn-whole (g.P.Puts.putting c.args.how.now) c.args.depth c.in_ok-within-in-Fn.within c.args.n.now c.in-Fn.k c.in-Fn.c c.get.result.now
    c.in-Fn.is c.in_ok-within-in-Fn.ensures c.get.ensures in grind (arith, common_steps)

pub returns-in_err-left-in-Fn-clause-over : goal.returns-in_err-left-in-Fn-clause-over
returns-in_err-left-in-Fn-clause-over g t c =
    let e = fn-whole (g.P.Puts.putting c.args.how.now) c.args.depth c.in_ok-within-in-Fn.within c.args.n.now c.in-Fn.k c.in-Fn.c c.get.result.now
    c.in-Fn.is c.in_ok-within-in-Fn.ensures c.get.ensures in grind (arith, common_steps)

pub returns-in_ok-body-in-Fn-clause-form : goal.returns-in_ok-body-in-Fn-clause-form
returns-in_ok-body-in-Fn-clause-form g t c = fn-is (g.P.Puts.putting c.args.how.now) c.args.depth c.in_ok-within-in-Fn.within c.args.n.now c.in-Fn.c c.get.result.now
    c.in_ok-made-in-Fn.made.0 c.in_ok-body-in-Fn.body c.in-Fn.k c.in_ok-kind-in-Fn.kind
    c.in-Fn.is c.in_ok-kind-in-Fn.ensures c.in_ok-within-in-Fn.ensures c.get.ensures c.in_ok-made-in-Fn.ensures.form c.in_ok-body-in-Fn.ensures

pub returns-in_ok-body-in-Fn-clause-fits : goal.returns-in_ok-body-in-Fn-clause-fits
returns-in_ok-body-in-Fn-clause-fits g t c =
    let e = fn-whole (g.P.Puts.putting c.args.how.now) c.args.depth c.in_ok-within-in-Fn.within c.args.n.now c.in-Fn.k c.in-Fn.c c.get.result.now
    c.in-Fn.is c.in_ok-within-in-Fn.ensures c.get.ensures in grind (arith, common_steps)
