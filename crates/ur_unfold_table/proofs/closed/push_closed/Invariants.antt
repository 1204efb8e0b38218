-- What is said so far and what will be said of the fields that are left is all.
use Rattle.std.proofs.Common.{◌≡◌, ◌++◌, drop, map}
use Rattle.ur_unfold_pieces.specs.Told.{told, closed}
use Rattle.ur_unfold_table.proofs.closed.push_closed.Given as goal

abbrev pub invariant-loop-i : goal.invariant-loop-i
invariant-loop-i l = map told l.parts ++ map (λ f. closed f.of) (drop l.i l.all) ≡ map told l.initial.parts ++ map (λ f. closed f.of) l.all
