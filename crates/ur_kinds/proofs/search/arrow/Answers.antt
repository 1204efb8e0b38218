use Rattle.std.proofs.Common.{ap₂, ◌∙◌}
use Rattle.ur_syntax.specs.Kinds.{arrow}
use Rattle.ur_syntax.proofs.Shapes.{kind-arrow}
use Rattle.ur_kinds.proofs.search.arrow.Goals as goal

pub returns : goal.returns
returns c = kind-arrow c.in_ok-k.k c.in_ok-j.j ∙ ap₂ arrow c.in_ok-k.ensures c.in_ok-j.ensures
