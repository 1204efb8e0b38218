-- Whether two bools are the same.
use Rattle.std.proofs.Common.{sym, ◌∙◌}
use Rattle.ur_verify_operations.proofs.Declared.{not_true}
use Rattle.ur_verify_operations.proofs.deeds.agree.Goals as goal

pub returns-then-unit : goal.returns-then-unit
returns-then-unit c = ((λ q. q ∙ sym c.if-unit.true), (λ e. e ∙ c.if-unit.true))

pub returns : goal.returns
returns c = let h = not_true c.args.empty in ((λ q. h.0 q ∙ sym c.if-unit.false), (λ e. h.1 (e ∙ c.if-unit.false)))
