use Rattle.std.proofs.Common.{◌∙◌, w64}
use Rattle.std.specs.FinMap.{remove}
use Rattle.std.proofs.lemmas.Int.{to_z-of_z}
use Rattle.ur_keeper_bodies.proofs.Places.{held-taken, sorted-after-taken}
use Rattle.ur_keeper_bodies.proofs.held.Held.take.Goals as goal

pub invariant_of-self : goal.invariant_of-self
invariant_of-self c = sorted-after-taken c.self.inside.map.entries _ _ c.self.invariant c.remove.ensures.entries

pub returns : goal.returns
returns c =
    held-taken c.self.inside.map.entries _ _ c.self.invariant c.remove.ensures.entries
    ∙ (λ i. remove (c.self.view_is i) (to_z-of_z w64 c.args.tab c.ranges.tab i, to_z-of_z w64 c.args.num c.ranges.num i))
