-- The types so far are this one.
use Rattle.std.proofs.Common.{◌≡◌, take, All}
use Rattle.ur_verify_operations.proofs.markup.all_are.Given as goal

abbrev pub invariant-loop-t : goal.invariant-loop-t
invariant-loop-t l = (All (λ x. x ≡ l.of) (take l.t-index l.ts))
