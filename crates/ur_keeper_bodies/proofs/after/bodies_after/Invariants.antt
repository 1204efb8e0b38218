use Rattle.std.proofs.Common.{◌≡◌, drop}
use Rattle.ur_keeper_bodies.specs.Bodies.{BodyMap, bodies_of, written}
use Rattle.ur_keeper_bodies.proofs.after.bodies_after.Given as goal

abbrev pub invariant-loop-change : goal.invariant-loop-change
invariant-loop-change l =
    (m : BodyMap) → l.fn.entries ≡ bodies_of m l.tab → bodies_of (written l.held (drop l.change-index l.changes)) l.tab ≡ bodies_of (written m l.changes) l.tab
