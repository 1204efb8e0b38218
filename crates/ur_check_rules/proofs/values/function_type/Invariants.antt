use Rattle.std.proofs.Common.{◌≡◌, length}
use Rattle.ur_rows.specs.Types.{arrows_of}
use Rattle.ur_tree.specs.Typing.{types_of}
use Rattle.ur_check_rules.proofs.values.function_type.Given as goal

abbrev pub invariant-loop-last : goal.invariant-loop-last
invariant-loop-last l = arrows_of (types_of l.left) l.of ≡ arrows_of (types_of l.params) l.last_of

abbrev pub decreases-loop-last : goal.decreases-loop-last
decreases-loop-last l = length l.left
