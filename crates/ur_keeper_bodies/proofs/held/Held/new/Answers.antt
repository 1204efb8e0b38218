use Rattle.std.proofs.Common.{ap, ◌∙◌}
use Rattle.std.specs.FinMap.{from_sorted}
use Rattle.ur_keeper_bodies.specs.Bodies.{place_cmp}
use Rattle.ur_keeper_bodies.proofs.Places.{empty-sorted}
use Rattle.ur_keeper_bodies.proofs.held.Held.new.Goals as goal

pub returns : goal.returns
returns c = ap (from_sorted {R = place_cmp}) c.new.ensures.empty ∙ empty-sorted
