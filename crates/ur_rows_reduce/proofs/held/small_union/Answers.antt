use Rattle.ur_rows_reduce.proofs.Holding.{union-small, small-union-large}
use Rattle.ur_rows_reduce.proofs.held.small_union.Goals as goal

pub returns-in_ok-merged-in-Some : goal.returns-in_ok-merged-in-Some
returns-in_ok-merged-in-Some c = λ p q u v. union-small c.args.r c.args.s c.in_ok-merged-in-Some.field-0 p q c.args.a c.args.b c.in-Some.sum c.in-Some.ensures.1 c.if-sum-lt65535.false c.in_ok-merged-in-Some.ensures u v

pub returns-then-sum-lt65535 : goal.returns-then-sum-lt65535
returns-then-sum-lt65535 c = small-union-large c.args.r c.args.s c.args.a c.args.b c.in-Some.sum c.in_ok-r-in-Some.r c.in_ok-s-in-Some.s c.in_ok-both-in-Some.field-0 c.in-Some.ensures.1 c.if-sum-lt65535.true c.in_ok-r-in-Some.ensures c.in_ok-s-in-Some.ensures c.in_ok-both-in-Some.ensures
