use Rattle.std.proofs.Common.{◌≡◌, length}
use Rattle.ur_tree.specs.Typing.{are_static_at}
use Rattle.ur_check_rules.specs.Views.{args_with}
use Rattle.ur_check_rules.proofs.calls.are_static_at.Given as goal

abbrev pub invariant-loop-param : goal.invariant-loop-param
invariant-loop-param l = are_static_at l.params (args_with l.args).1 ≡ are_static_at l.fn.params (args_with l.fn.args).1

abbrev pub decreases-loop-param : goal.decreases-loop-param
decreases-loop-param l = length l.params
