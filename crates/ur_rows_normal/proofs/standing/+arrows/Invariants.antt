use Rattle.std.proofs.Common.{◌≡◌, drop}
use Rattle.ur_rows_normal.specs.Standing.{row_holds_arrow}
use Rattle.ur_rows_normal.proofs.standing.+arrows.Given as goal

abbrev pub invariant-row_holds_arrow-loop-i : goal.invariant-row_holds_arrow-loop-i
invariant-row_holds_arrow-loop-i l = row_holds_arrow (drop l.i l.parts) ≡ row_holds_arrow l.parts
