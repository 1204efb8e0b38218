-- Each call is of smaller expressions.
use Rattle.std.proofs.Common.{◌+◌, ◌*◌}
use Rattle.ur_sqltype.proofs.Sizes.{size}
use Rattle.ur_sqltype.proofs.expression.+kinding.Given as goal

abbrev pub decreases-exp_kind : goal.decreases-exp_kind
decreases-exp_kind l = 6 * size l.e.now.form

abbrev pub decreases-of_kind : goal.decreases-of_kind
decreases-of_kind l = 6 * size l.e.now.form + 1

abbrev pub decreases-operation : goal.decreases-operation
decreases-operation l = 6 * (size l.a.now.form + size l.b.now.form) + 4

abbrev pub decreases-joining : goal.decreases-joining
decreases-joining l = 6 * (size l.a.now.form + size l.b.now.form) + 2

abbrev pub decreases-comparing : goal.decreases-comparing
decreases-comparing l = 6 * (size l.a.now.form + size l.b.now.form) + 2

abbrev pub decreases-negation : goal.decreases-negation
decreases-negation l = 6 * size l.a.now.form + 2

abbrev pub decreases-minus : goal.decreases-minus
decreases-minus l = 6 * size l.a.now.form + 2

abbrev pub decreases-equating : goal.decreases-equating
decreases-equating l = 6 * (size l.a.now.form + size l.b.now.form) + 3

abbrev pub decreases-null_compared : goal.decreases-null_compared
decreases-null_compared l = 6 * size l.a.now.form + 1

abbrev pub decreases-some : goal.decreases-some
decreases-some l = 6 * size l.a.now.form + 1
