use Rattle.std.proofs.Common.{ap, sym, ◌∙◌}
use Rattle.ur_rows.specs.declared.normal.NormalType.TheVariants as ty
use Rattle.ur_tree.specs.declared.exp.Exp.TheVariants as exp
use Rattle.ur_typed.specs.Rules as rules
use Rattle.ur_check_walk.proofs.leaves.string.Goals as goal

pub returns : goal.returns
returns c = λ st. ap (λ z. rules.gives ty.Str (exp.Str z) st) (sym c.in_ok-text.ensures) ∙ c.in_ok-made.ensures st
