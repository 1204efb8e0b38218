use Rattle.std.proofs.Common.{◌≡◌, length}
use Rattle.ur_parse_con.specs.Chains.{arrows}
use Rattle.ur_parse_con.proofs.kind.joined.Given as goal

abbrev pub invariant-kinds : goal.invariant-kinds
invariant-kinds l = arrows l.left l.right ≡ arrows l.initial.left l.initial.right

abbrev pub decreases-kinds : goal.decreases-kinds
decreases-kinds l = length l.left
