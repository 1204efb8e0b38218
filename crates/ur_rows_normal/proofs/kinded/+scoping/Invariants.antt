use Rattle.std.proofs.Common.{◌≡◌, drop}
use Rattle.ur_rows.specs.Kinded.{row_is_in}
use Rattle.ur_rows_normal.specs.Scope.{within}
use Rattle.ur_rows_normal.proofs.kinded.+scoping.Given as goal

abbrev pub invariant-row_is_in-loop-i : goal.invariant-row_is_in-loop-i
invariant-row_is_in-loop-i l = row_is_in (within l.free l.depth) (drop l.i l.parts) ≡ row_is_in (within l.free l.depth) l.parts
