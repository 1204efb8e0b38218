use Rattle.std.proofs.Common.{◌≡◌, map, Some}
use Rattle.ur_check.proofs.assembled.changes_of.Given as goal

abbrev pub invariant-loop-slot : goal.invariant-loop-slot
invariant-loop-slot l = map (λ q. Some q) l.list ≡ l.yielded
