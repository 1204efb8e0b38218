-- What is said so far and what will be said of the branches that are left is all.
use Rattle.std.proofs.Common.{◌≡◌, ◌++◌, drop, map}
use Rattle.ur_unfold_pieces.specs.Told.{told, exp}
use Rattle.ur_unfold_table.proofs.cases.push_bodies.Given as goal

abbrev pub invariant-loop-i : goal.invariant-loop-i
invariant-loop-i l = map told l.parts ++ map (λ b. exp l.scope b.body) (drop l.i l.all) ≡ map told l.initial.parts ++ map (λ b. exp l.scope b.body) l.all
