use Rattle.std.proofs.Common.{◌≡◌, drop}
use Rattle.ur_tree.specs.Typing.{no_fixed}
use Rattle.ur_check_forms.proofs.targets.none_fixed.Given as goal

abbrev pub invariant-loop-i : goal.invariant-loop-i
invariant-loop-i l = no_fixed (drop l.i l.params) ≡ no_fixed l.params
