use Rattle.std.proofs.Common.{ap₂, subst, ◌∙◌}
use Rattle.std.proofs.lemmas.Result.{IfOk-weaker}
use Rattle.ur_rows.specs.declared.normal.Normal.TheVariants as normal
use Rattle.ur_rows.proofs.Shapes.{fn-made}
use Rattle.ur_rows_reduce.specs.Held.{Holds}
use Rattle.ur_rows_reduce.proofs.Holding.{held-form}
use Rattle.ur_rows_normal.proofs.walk.function.Goals as goal

pub returns-in_ok-boxed_normal-in-Form : goal.returns-in_ok-boxed_normal-in-Form
returns-in_ok-boxed_normal-in-Form c = IfOk-weaker c.measured.result _ _ (λ h g n p. subst (Holds h) (ap₂ (λ x y. normal.Fn x y) c.in_ok-kind-in-Form.ensures (c.in_ok-boxed_normal-in-Form.ensures ∙ (held-form c.args.body c.in-Form.n n c.in-Form.is p).0) ∙ fn-made c.args.kind.now n) g) c.measured.ensures
