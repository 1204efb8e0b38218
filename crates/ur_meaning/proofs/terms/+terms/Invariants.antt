-- Each call has fewer levels left, or stands lower in the order of the functions.
use Rattle.std.proofs.Common.{◌+◌, ◌*◌, ◌≡◌, length}
use Rattle.ur_meaning.proofs.Going.{SoFar}
use Rattle.ur_meaning.proofs.terms.+terms.Given as goal

abbrev pub decreases-terms_of : goal.decreases-terms_of
decreases-terms_of g l = 4 * l.levels + 3

abbrev pub decreases-push_term : goal.decreases-push_term
decreases-push_term g l = 4 * l.levels + 2

abbrev pub decreases-term_of : goal.decreases-term_of
decreases-term_of g l = 4 * l.levels + 1

abbrev pub decreases-node : goal.decreases-node
decreases-node g l = 4 * l.levels

abbrev pub invariant-terms_of-loop-place : goal.invariant-terms_of-loop-place
invariant-terms_of-loop-place g l =
    SoFar g.T.Table.language g.T.Table.instances g.T.Table.stands g.T.Table.sound l.initial.table l.initial.room l.levels l.parts l.place l.table l.room l.made × (l.count ≡ length l.parts)
