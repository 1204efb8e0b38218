use Rattle.std.proofs.Common.{◌≡◌, ◌++◌, take, flat_map}
use Rattle.ur_kinds.specs.Acts.{acts}
use Rattle.ur_kinds.specs.Decls.{in_function}
use Rattle.ur_kinds.proofs.decls.functions.Given as goal

abbrev pub invariant-loop-i : goal.invariant-loop-i
invariant-loop-i l = acts l.out ≡ acts l.initial.out ++ flat_map in_function (take l.i l.fs)
