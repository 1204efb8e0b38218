use Rattle.std.proofs.Common.{◌∙◌, w64}
use Rattle.std.specs.FinMap.{insert}
use Rattle.std.proofs.lemmas.Int.{to_z-of_z}
use Rattle.ur_keeper_bodies.proofs.Places.{held-put, sorted-after-put}
use Rattle.ur_keeper_bodies.proofs.held.Held.put.Goals as goal

pub invariant_of-self-2 : goal.invariant_of-self-2
invariant_of-self-2 c = sorted-after-put c.self.inside.map.entries _ _ c.args.body c.self.invariant c.in_ok-insert.ensures.entries

pub returns-clause-ok : goal.returns-clause-ok
returns-clause-ok c =
    held-put c.self.inside.map.entries _ _ c.args.body c.self.invariant c.in_ok-insert.ensures.entries
    ∙ (λ i. insert (c.self.view_is i) (to_z-of_z w64 c.args.tab c.ranges.tab i, to_z-of_z w64 c.args.num c.ranges.num i) c.args.body)
