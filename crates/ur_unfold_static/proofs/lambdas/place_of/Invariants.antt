-- What is not found yet is in what is left.
use Rattle.std.proofs.Common.{drop}
use Rattle.ur_unfold_static.specs.Lists.{IsAbsent, all_written}
use Rattle.ur_unfold_static.proofs.lambdas.place_of.Given as goal

abbrev pub invariant-loop-i : goal.invariant-loop-i
invariant-loop-i l = IsAbsent (all_written (drop l.i l.known)) (l.params, l.body) → IsAbsent (all_written l.known) (l.params, l.body)
