use Rattle.std.proofs.Common.{ap₂, ◌∙◌}
use Rattle.ur_rows.specs.Made.{arrow_of}
use Rattle.ur_rows.proofs.Shapes.{arrow-made}
use Rattle.ur_check_walk.proofs.bound.arrow.Goals as goal

pub returns : goal.returns
returns c = arrow-made c.in_ok-from.from c.in_ok-to.to ∙ ap₂ arrow_of (c.in_ok-from.ensures ∙ c.in_ok-copied.ensures) c.in_ok-to.ensures
