use Rattle.std.proofs.Common.{◌≡◌, drop}
use Rattle.ur_rows.specs.Apart.{piece_of}
use Rattle.ur_disjoint.specs.Tests.{has_pair}
use Rattle.ur_disjoint.proofs.rows.has_pair.Given as goal

abbrev pub invariant-loop-i : goal.invariant-loop-i
invariant-loop-i l = has_pair (drop l.i l.assumed) (piece_of l.p) (piece_of l.q) ≡ has_pair l.assumed (piece_of l.p) (piece_of l.q)
