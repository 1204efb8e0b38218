use Rattle.std.proofs.Common.{◌≡◌, ◌++◌, take, flat_map}
use Rattle.ur_kinds.specs.Acts.{acts}
use Rattle.ur_kinds.specs.Decls.{in_decl}
use Rattle.ur_kinds.proofs.decls.decls.Given as goal

abbrev pub invariant-loop-d : goal.invariant-loop-d
invariant-loop-d l = acts l.out ≡ acts l.initial.out ++ flat_map in_decl (take l.d-index l.ds)
