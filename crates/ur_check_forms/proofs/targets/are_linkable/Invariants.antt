use Rattle.std.proofs.Common.{◌≡◌, drop}
use Rattle.ur_tree.specs.Typing.{are_linkable, types_of}
use Rattle.ur_check_forms.proofs.targets.are_linkable.Given as goal

abbrev pub invariant-loop-i : goal.invariant-loop-i
invariant-loop-i l = are_linkable (types_of (drop l.i l.params)) ≡ are_linkable (types_of l.params)
