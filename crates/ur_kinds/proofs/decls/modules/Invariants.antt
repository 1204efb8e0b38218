use Rattle.std.proofs.Common.{◌≡◌, ◌++◌, take}
use Rattle.ur_kinds.specs.Acts.{acts}
use Rattle.ur_kinds.specs.Decls.{in_modules}
use Rattle.ur_kinds.proofs.decls.modules.Given as goal

abbrev pub invariant-loop-i : goal.invariant-loop-i
invariant-loop-i l = acts l.out ≡ acts l.initial.out ++ in_modules (take l.i l.names) (take l.i l.xs)
