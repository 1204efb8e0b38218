use Rattle.std.proofs.Common.{ap, sym, subst, ◌∙◌, ◌≤◌, arith}
use Rattle.std.proofs.lemmas.Grind.{common_steps}
use Rattle.ur_rows.specs.Nodes.{nodes}
use Rattle.ur_rows.proofs.PutMade.{once-is}
use Rattle.ur_rows_reduce.specs.Height.{height, most_levels}
use Rattle.ur_rows_reduce.proofs.After.{once-whole}
use Rattle.ur_rows_reduce.proofs.count.applied_within.Goals as goal

pub returns-in_err-made-in-Fn-clause-over : goal.returns-in_err-made-in-Fn-clause-over
returns-in_err-made-in-Fn-clause-over c =
    let e = once-whole c.args.f.now c.args.a.now c.in-Fn.c c.get.result.now c.in-Fn.field-0 c.in-Fn.is c.get.ensures in grind (arith, common_steps)

pub returns-in_ok-made-in-Fn-clause-form : goal.returns-in_ok-made-in-Fn-clause-form
returns-in_ok-made-in-Fn-clause-form c = c.in_ok-made-in-Fn.ensures.form ∙ once-is c.args.f.now c.args.a.now c.in-Fn.c c.get.result.now c.in-Fn.field-0 c.in-Fn.is c.get.ensures

pub returns-in_ok-made-in-Fn-clause-small : goal.returns-in_ok-made-in-Fn-clause-small
returns-in_ok-made-in-Fn-clause-small c =
    let h = ap nodes c.in_ok-made-in-Fn.ensures.form in
    let k = c.in_ok-made-in-Fn.ensures.fits in omega arith

pub returns-in_ok-made-in-Fn-clause-low : goal.returns-in_ok-made-in-Fn-clause-low
returns-in_ok-made-in-Fn-clause-low c = subst (λ z. height z ≤ most_levels)
    (sym (c.in_ok-made-in-Fn.ensures.form ∙ once-is c.args.f.now c.args.a.now c.in-Fn.c c.get.result.now c.in-Fn.field-0 c.in-Fn.is c.get.ensures)) c.in_ok-applied_is_low-in-Fn.ensures
