-- The keys are those of the plain functions so far.
use Rattle.ur_unfold_pieces.specs.Rooted.{RootsTo}
use Rattle.ur_unfold_pieces.proofs.roots.roots.Given as goal

abbrev pub invariant-loop-i : goal.invariant-loop-i
invariant-loop-i l = RootsTo l.all l.i l.instances.keys
