use Rattle.std.proofs.Common.{◌≡◌, ◌++◌, take, flat_map}
use Rattle.ur_kinds.specs.Acts.{acts}
use Rattle.ur_kinds.specs.Decls.{in_variant}
use Rattle.ur_kinds.proofs.decls.variants.Given as goal

abbrev pub invariant-loop-v : goal.invariant-loop-v
invariant-loop-v l = acts l.out ≡ acts l.initial.out ++ flat_map in_variant (take l.v-index l.vs)
