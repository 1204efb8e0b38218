-- What is kept so far, with what is kept of those that are left, is all.
use Rattle.std.proofs.Common.{◌≡◌, ◌++◌, drop}
use Rattle.ur_source.specs.Names.{kept, is_fixed}
use Rattle.ur_unfold_pieces.specs.Lambdas.{lambda_names}
use Rattle.ur_unfold_pieces.proofs.lambdas.kept_fixed.Given as goal

abbrev pub invariant-loop-i : goal.invariant-loop-i
invariant-loop-i l = l.kept ++ kept is_fixed (lambda_names l.params l.body) l.blank l.i (drop l.i l.all) ≡ kept is_fixed (lambda_names l.params l.body) l.blank 0 l.all
