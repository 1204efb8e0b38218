use Rattle.std.proofs.Common.{◌≡◌, ◌++◌, take, flat_map}
use Rattle.ur_tree.specs.FieldNames.{of_con_param}
use Rattle.ur_check.proofs.decls.con_params.Given as goal

abbrev pub invariant-loop-p : goal.invariant-loop-p
invariant-loop-p l = l.out ≡ l.initial.out ++ flat_map of_con_param (take l.p-index l.ps)
