use Rattle.std.proofs.Common.{subst, ◌≤◌}
use Rattle.std.proofs.lemmas.Result.{IfOk-weaker}
use Rattle.ur_rows.specs.Put.{argument}
use Rattle.ur_rows.proofs.PutMade.{once-is}
use Rattle.ur_rows_reduce.specs.Height.{height, most_levels}
use Rattle.ur_rows_reduce.proofs.putting.applied_is_low.Goals as goal

pub returns-in_ok-how-in-Fn : goal.returns-in_ok-how-in-Fn
returns-in_ok-how-in-Fn c = IfOk-weaker c.normal_after.result _ _ (λ u g. subst (λ z. height z ≤ most_levels)
    (once-is c.args.f.now c.args.a.now c.in-Fn.c c.get.result.now c.in-Fn.field-0 c.in-Fn.is c.get.ensures) (g (argument c.args.a.now) c.in_ok-how-in-Fn.ensures)) c.normal_after.ensures
