use Rattle.std.proofs.lemmas.Result.{IfOk-weaker}
use Rattle.ur_rows_reduce.proofs.Holding.{unused-holds}
use Rattle.ur_rows_reduce.proofs.given.given_large.Goals as goal

pub returns-then-not-branch : goal.returns-then-not-branch
returns-then-not-branch c = IfOk-weaker c.given_form.result _ _ (λ h k n e m. unused-holds c.args.f.now n h c.in_ok-is_used.field-0 c.unit.result c.in_ok-is_used.ensures c.if-not-branch.true k) c.given_form.ensures
