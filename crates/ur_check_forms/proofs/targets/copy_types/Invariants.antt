use Rattle.std.proofs.Common.{◌≡◌, take}
use Rattle.ur_tree.specs.Typing.{types_of}
use Rattle.ur_check_forms.proofs.targets.copy_types.Given as goal

abbrev pub invariant-loop-i : goal.invariant-loop-i
invariant-loop-i l = l.types ≡ types_of (take l.i l.params)
