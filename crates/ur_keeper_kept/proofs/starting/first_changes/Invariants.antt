use Rattle.std.proofs.Common.{◌≡◌, ◌∷◌, pos}
use Rattle.ur_keeper_bodies.specs.declared.bodies.BodyChange.TheVariants as change
use Rattle.ur_keeper_kept.specs.Attach.{ones}
use Rattle.ur_keeper_kept.proofs.starting.first_changes.Given as goal

abbrev pub invariant-loop-place : goal.invariant-loop-place
invariant-loop-place l = l.changes ≡ change.Add (pos 0) (pos 0) l.fn.text ∷ ones 0 l.place
