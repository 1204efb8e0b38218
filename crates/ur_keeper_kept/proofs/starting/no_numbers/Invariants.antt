use Rattle.std.proofs.Common.{◌≡◌, ℕ, ◌+◌, ◌<◌, ◌≤◌, None, pos}
use Rattle.ur_base.specs.Told.{WhereTold}
use Rattle.ur_keeper_bodies.specs.Bodies.{IsOpened, body_at}
use Rattle.ur_keeper_kept.proofs.starting.no_numbers.Given as goal

abbrev pub invariant-loop-place : goal.invariant-loop-place
invariant-loop-place g l = record {
  same : IsOpened (g.B.Bodies.bodies l.initial.stock.bodies) (g.B.Bodies.bodies l.stock.bodies) (g.B.Bodies.opened l.stock.bodies);
  first : g.B.Bodies.tells_at_first l.stock.bodies ≡ g.B.Bodies.tells_at_first l.initial.stock.bodies;
  later : (g.B.Bodies.faults l.initial.stock.bodies + l.initial.stock.found) ≤ (g.B.Bodies.faults l.stock.bodies + l.stock.found);
  found : l.stock.found ≡ l.initial.stock.found;
  told : WhereTold (g.B.Bodies.bodies l.initial.stock.bodies) (λ m. (i : ℕ) → i < l.place → body_at m (pos 1) (pos i) ≡ None);
  low : l.place ≤ 4294967296;
}
