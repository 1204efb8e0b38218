use Rattle.std.proofs.Common.{◌≡◌, take}
use Rattle.ur_keeper_bodies.specs.Bodies.{BodyMap, body_at, written}
use Rattle.ur_keeper_kept.proofs.work.body_after.Given as goal

abbrev pub invariant-loop-change : goal.invariant-loop-change
invariant-loop-change l = (m : BodyMap) → l.fn.kept ≡ body_at m l.tab l.num → l.body ≡ body_at (written m (take l.change-index l.changes)) l.tab l.num
