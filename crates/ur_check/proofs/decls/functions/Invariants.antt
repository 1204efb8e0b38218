use Rattle.std.proofs.Common.{◌≡◌, ◌++◌, take, flat_map}
use Rattle.ur_tree.specs.FieldNames.{of_function}
use Rattle.ur_check.proofs.decls.functions.Given as goal

abbrev pub invariant-loop-f : goal.invariant-loop-f
invariant-loop-f l = l.out ≡ l.initial.out ++ flat_map of_function (take l.f-index l.fs)
