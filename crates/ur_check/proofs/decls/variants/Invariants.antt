use Rattle.std.proofs.Common.{◌≡◌, ◌++◌, take, flat_map}
use Rattle.ur_tree.specs.FieldNames.{of_variant}
use Rattle.ur_check.proofs.decls.variants.Given as goal

abbrev pub invariant-loop-v : goal.invariant-loop-v
invariant-loop-v l = l.out ≡ l.initial.out ++ flat_map of_variant (take l.v-index l.vs)
