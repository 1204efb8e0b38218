use Rattle.std.proofs.Common.{◌≡◌, drop}
use Rattle.ur_check_forms.specs.Statements.{are_kinds}
use Rattle.ur_check_forms.proofs.statements.are_kinds.Given as goal

abbrev pub invariant-loop-i : goal.invariant-loop-i
invariant-loop-i l = are_kinds (drop l.i l.types) ≡ are_kinds l.types
