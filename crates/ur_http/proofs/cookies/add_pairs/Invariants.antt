use Rattle.std.proofs.Common.{◌≡◌, ◌++◌, length}
use Rattle.ur_http.specs.Fields.{pairs_in}
use Rattle.ur_http.proofs.cookies.add_pairs.Given as goal

abbrev pub invariant-loop-end : goal.invariant-loop-end
invariant-loop-end l = l.cookies ++ pairs_in l.left ≡ l.initial.cookies ++ pairs_in l.value

abbrev pub decreases-loop-end : goal.decreases-loop-end
decreases-loop-end l = length l.left
