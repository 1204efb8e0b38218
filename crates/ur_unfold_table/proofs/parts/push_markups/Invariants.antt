-- What is said so far and what will be said of those that are left is all.
use Rattle.std.proofs.Common.{◌≡◌, ◌++◌, drop, map}
use Rattle.ur_unfold_pieces.specs.Told.{told, part}
use Rattle.ur_unfold_table.proofs.parts.push_markups.Given as goal

abbrev pub invariant-loop-i : goal.invariant-loop-i
invariant-loop-i l = map told l.parts ++ map (part l.scope) (drop l.i l.all) ≡ map told l.initial.parts ++ map (part l.scope) l.all
