use Rattle.std.proofs.Common.{◌≡◌, length}
use Rattle.std.specs.Option.{option_copied}
use Rattle.ur_typed_rules.specs.Scopes.{of_result}
use Rattle.ur_check_scopes.specs.Views.{mode_of}
use Rattle.ur_check_scopes.proofs.modes.of_result.Given as goal

abbrev pub invariant-loop-first : goal.invariant-loop-first
invariant-loop-first l = of_result l.left (mode_of (option_copied l.of)) ≡ of_result l.params (mode_of (option_copied l.fn.wanted))

abbrev pub decreases-loop-first : goal.decreases-loop-first
decreases-loop-first l = length l.left
