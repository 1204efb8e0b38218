-- None has a kind where none of those that are left has.
use Rattle.std.proofs.Common.{◌≡◌, ◌↔◌, [], drop}
use Rattle.ur_tree.specs.Env.{kinds_of}
use Rattle.ur_unfold_pieces.proofs.roots.has_no_kind.Given as goal

abbrev pub invariant-loop-i : goal.invariant-loop-i
invariant-loop-i l = (kinds_of l.all ≡ []) ↔ (kinds_of (drop l.i l.all) ≡ [])
