use Rattle.std.proofs.Common.{ap, sym, ◌∙◌}
use Rattle.ur_tree.specs.declared.exp.Exp.TheVariants as exp
use Rattle.ur_typed.specs.Rules as rules
use Rattle.ur_check_walk.proofs.leaves.unit_out.Goals as goal

pub returns : goal.returns
returns c = λ st. ap (λ z. rules.gives z exp.Unit st) (sym c.unit-of.ensures) ∙ c.in_ok-made.ensures st
