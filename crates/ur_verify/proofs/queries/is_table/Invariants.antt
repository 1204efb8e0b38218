-- The kinds so far are the same.
use Rattle.std.proofs.Common.{◌≡◌, take, map}
use Rattle.ur_verify.proofs.queries.is_table.Given as goal

abbrev pub invariant-loop-i : goal.invariant-loop-i
invariant-loop-i l = map (λ c. c.1) (take l.i l.shape.columns) ≡ take l.i l.columns
