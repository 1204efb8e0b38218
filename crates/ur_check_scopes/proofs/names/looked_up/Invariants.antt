use Rattle.std.proofs.Common.{◌≡◌, length}
use Rattle.ur_syntax.specs.Names.{member, looked_up}
use Rattle.ur_check_scopes.specs.Views.{names_in, itself}
use Rattle.ur_check_scopes.proofs.names.looked_up.Given as goal

abbrev pub invariant-loop-last : goal.invariant-loop-last
invariant-loop-last g l = looked_up (member l.home l.name) (names_in itself l.left) ≡ looked_up (member l.home l.name) (names_in itself l.names)

abbrev pub decreases-loop-last : goal.decreases-loop-last
decreases-loop-last g l = length l.left
