use Rattle.std.proofs.Common.{◌≡◌, length}
use Rattle.ur_disjoint.specs.Tests.{all_apart}
use Rattle.ur_disjoint.proofs.rows.all_apart.Given as goal

abbrev pub invariant-loop-p : goal.invariant-loop-p
invariant-loop-p l = all_apart l.assumed l.rest ≡ all_apart l.assumed l.row

abbrev pub decreases-loop-p : goal.decreases-loop-p
decreases-loop-p l = length l.rest
