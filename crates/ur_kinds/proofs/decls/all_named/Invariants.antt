use Rattle.std.proofs.Common.{◌≡◌, ◌++◌, take, flat_map}
use Rattle.ur_kinds.specs.Acts.{acts}
use Rattle.ur_kinds.specs.Decls.{named}
use Rattle.ur_kinds.proofs.decls.all_named.Given as goal

abbrev pub invariant-loop-f : goal.invariant-loop-f
invariant-loop-f l = acts l.out ≡ acts l.initial.out ++ flat_map named (take l.f-index l.fs)
