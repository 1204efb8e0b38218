use Rattle.std.proofs.Common.{inr}
use Rattle.ur_parse_rules.proofs.Steps.{passed, made}
use Rattle.ur_parse_rules.proofs.Places.{mark_moves, moves_on}
use Rattle.ur_parse_con.proofs.Binders.{tail_none, tail_refused, tail_twice, tail_read}
use Rattle.ur_parse_con.proofs.behind.tail.Goals as goal

pub returns-in_err-binder-clause-refused : goal.returns-in_err-binder-clause-refused
returns-in_err-binder-clause-refused c = passed _ _ c.from_residual.ensures.1 c.in_err-binder.ensures.refused (λ r h n. tail_refused (c.sees.ensures.yes c.if-sees.true) (h n))

pub returns-then-sees-2-clause-refused : goal.returns-then-sees-2-clause-refused
returns-then-sees-2-clause-refused c = made _ c.unexpected.ensures (λ r s n. tail_twice (c.sees.ensures.yes c.if-sees.true) (c.in_ok-binder.ensures.found n) s (c.sees-then-sees.ensures.yes c.if-sees-2.true))

pub returns-else-sees-2-clause-stays : goal.returns-else-sees-2-clause-stays
returns-else-sees-2-clause-stays c = inr (moves_on (mark_moves (c.sees.ensures.yes c.if-sees.true)) c.in_ok-binder.ensures.moves)

pub returns-else-sees-2-clause-found : goal.returns-else-sees-2-clause-found
returns-else-sees-2-clause-found c = λ n. tail_read (c.sees.ensures.yes c.if-sees.true) (c.in_ok-binder.ensures.found n) (c.sees-then-sees.ensures.no c.if-sees-2.false)

pub returns-else-sees-clause-found : goal.returns-else-sees-clause-found
returns-else-sees-clause-found c = λ n. tail_none (c.sees.ensures.no c.if-sees.false)
