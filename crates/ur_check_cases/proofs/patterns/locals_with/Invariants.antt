use Rattle.std.proofs.Common.{◌≡◌, ◌++◌, drop}
use Rattle.ur_check_cases.specs.Binding.{locals_with}
use Rattle.ur_check_cases.proofs.patterns.locals_with.Given as goal

abbrev pub invariant-loop-i : goal.invariant-loop-i
invariant-loop-i l = l.locals ++ locals_with (drop l.i l.names) (drop l.i l.types) ≡ locals_with l.names l.types
