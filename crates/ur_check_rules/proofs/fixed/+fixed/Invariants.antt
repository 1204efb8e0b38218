use Rattle.std.proofs.Common.{◌≡◌, drop}
use Rattle.ur_tree.specs.IsStatic.{are_static}
use Rattle.ur_check_rules.specs.Views.{exps_with}
use Rattle.ur_check_rules.proofs.fixed.+fixed.Given as goal

abbrev pub invariant-are_static-loop-i : goal.invariant-are_static-loop-i
invariant-are_static-loop-i l = are_static (exps_with (drop l.i l.fields)).1 ≡ are_static (exps_with l.fields).1
