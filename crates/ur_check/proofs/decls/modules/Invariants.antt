use Rattle.std.proofs.Common.{◌≡◌, ◌++◌, take, flat_map}
use Rattle.ur_check.specs.Parts.{of_module}
use Rattle.ur_check.proofs.decls.modules.Given as goal

abbrev pub invariant-loop-m : goal.invariant-loop-m
invariant-loop-m l = l.out ≡ l.initial.out ++ flat_map of_module (take l.m-index l.ms)
