-- What is left and the nodes so far are what there was at first.
use Rattle.std.proofs.Common.{◌≡◌, ◌+◌, take}
use Rattle.std.specs.Prelude.{sum_by}
use Rattle.ur_sql.specs.Nodes.{scalar_nodes}
use Rattle.ur_check_limits.proofs.nodes.after_sets.Given as goal

abbrev pub invariant-loop-i : goal.invariant-loop-i
invariant-loop-i l = l.left + sum_by (λ set. scalar_nodes set.1) (take l.i l.all) ≡ l.initial.left
