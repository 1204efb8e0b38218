use Rattle.std.proofs.Common.{◌≡◌, length}
use Rattle.ur_parse_con.specs.Joins.{chained}
use Rattle.ur_parse_con.proofs.joins.chained.Given as goal

abbrev pub invariant-pieces : goal.invariant-pieces
invariant-pieces l = chained l.join l.left l.covered l.right ≡ chained l.join l.initial.left l.covered l.initial.right

abbrev pub decreases-pieces : goal.decreases-pieces
decreases-pieces l = length l.left
