use Rattle.std.proofs.Common.{if◌then◌else◌, ap, sym, ◌∙◌}
use Rattle.ur_terms.specs.State.{Done, Spent}
use Rattle.ur_machine_operations.proofs.built.built.Goals as goal

pub returns-then-is_small : goal.returns-then-is_small
returns-then-is_small c = λ s. ap (λ b. if b then Done c.args.value s else Spent s.events) (sym c.is_small.ensures ∙ c.if-is_small.true)

pub returns-else-is_small : goal.returns-else-is_small
returns-else-is_small c = λ s. ap (λ b. if b then Done c.args.value s else Spent s.events) (sym c.is_small.ensures ∙ c.if-is_small.false)
