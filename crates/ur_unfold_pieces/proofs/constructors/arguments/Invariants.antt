-- The constructors so far, with those of the numbers that are left, are all.
use Rattle.std.proofs.Common.{◌≡◌, ◌++◌, true, drop, map}
use Rattle.ur_unfold_static.specs.Held.{con_at}
use Rattle.ur_rows_normal.specs.Arguments.{are_normal}
use Rattle.ur_unfold_pieces.proofs.constructors.arguments.Given as goal

abbrev pub invariant-loop-i : goal.invariant-loop-i
invariant-loop-i l = (l.args ++ map (con_at l.closing.cons) (drop l.i l.numbers) ≡ map (con_at l.closing.cons) l.numbers) × (are_normal l.args ≡ true)
