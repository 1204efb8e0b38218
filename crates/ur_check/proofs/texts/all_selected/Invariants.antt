use Rattle.std.proofs.Common.{◌≡◌, ◌++◌, take, flat_map}
use Rattle.ur_check.specs.Parts.{of_selected}
use Rattle.ur_check.proofs.texts.all_selected.Given as goal

abbrev pub invariant-loop-s : goal.invariant-loop-s
invariant-loop-s l = l.out ≡ l.initial.out ++ flat_map of_selected (take l.s-index l.list)
