use Rattle.std.proofs.Common.{ap, ◌∙◌, Some, w64}
use Rattle.std.proofs.lemmas.Int.{to_z-of_z}
use Rattle.ur_keeper_bodies.specs.Bodies.{body_at}
use Rattle.ur_keeper_bodies.proofs.Places.{held-one}
use Rattle.ur_keeper_bodies.proofs.held.Held.one.Goals as goal

pub returns-in-None : goal.returns-in-None
returns-in-None c =
    c.in-None.ensures.value ∙ held-one c.self.inside.map.entries _ _ c.self.invariant
    ∙ (λ i. body_at (c.self.view_is i) (to_z-of_z w64 c.args.tab c.ranges.tab i) (to_z-of_z w64 c.args.num c.ranges.num i))

pub returns-in_ok-from_slice-in-Some : goal.returns-in_ok-from_slice-in-Some
returns-in_ok-from_slice-in-Some c =
    ap Some (c.in_ok-from_slice-in-Some.ensures ∙ c.as_slice.ensures)
    ∙ c.in-Some.ensures.value ∙ held-one c.self.inside.map.entries _ _ c.self.invariant
    ∙ (λ i. body_at (c.self.view_is i) (to_z-of_z w64 c.args.tab c.ranges.tab i) (to_z-of_z w64 c.args.num c.ranges.num i))
