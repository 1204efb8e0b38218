use Rattle.std.proofs.Common.{refl, inl, inr}
use Rattle.ur_parse_rules.proofs.Steps.{made}
use Rattle.ur_parse_rules.proofs.Places.{mark_moves}
use Rattle.ur_parse_exp.proofs.Branches.{no_bar, one_bar, two_bars}
use Rattle.ur_parse_exp.proofs.line.past_bar.Goals as goal

pub returns-then-sees-2-clause-refused : goal.returns-then-sees-2-clause-refused
returns-then-sees-2-clause-refused c = made _ c.unexpected.ensures (λ r s n. two_bars (c.sees.ensures.yes c.if-sees.true) (c.sees-then-sees.ensures.yes c.if-sees-2.true) s n)

pub returns-else-sees-2-clause-stays : goal.returns-else-sees-2-clause-stays
returns-else-sees-2-clause-stays c = inr (mark_moves (c.sees.ensures.yes c.if-sees.true))

pub returns-else-sees-2-clause-found : goal.returns-else-sees-2-clause-found
returns-else-sees-2-clause-found c = λ n. one_bar (c.sees.ensures.yes c.if-sees.true) (c.sees-then-sees.ensures.no c.if-sees-2.false) n

pub returns-else-sees-clause-stays : goal.returns-else-sees-clause-stays
returns-else-sees-clause-stays c = inl refl

pub returns-else-sees-clause-found : goal.returns-else-sees-clause-found
returns-else-sees-clause-found c = λ n. no_bar (c.sees.ensures.no c.if-sees.false) n
