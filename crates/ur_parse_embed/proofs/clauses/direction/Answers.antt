use Rattle.std.proofs.Common.{sym, ◌∙◌}
use Rattle.ur_parse_rules.proofs.Steps.{passed}
use Rattle.ur_parse_embed.proofs.Ordering.{rising_more, rising, falling_more, falling, no_direction}
use Rattle.ur_parse_embed.proofs.clauses.direction.Goals as goal

pub returns-in_err-finished-clause-refused : goal.returns-in_err-finished-clause-refused
returns-in_err-finished-clause-refused c = passed _ _ c.from_residual.ensures.1 c.in_err-finished.ensures.refused (λ r h n. rising_more (c.sees_word.ensures.yes c.if-sees_word.true) h.0 (sym c.direction_goes_on.ensures ∙ h.1))

pub returns-in_ok-finished-clause-found : goal.returns-in_ok-finished-clause-found
returns-in_ok-finished-clause-found c = λ n. rising (c.sees_word.ensures.yes c.if-sees_word.true) (sym c.direction_goes_on.ensures ∙ c.in_ok-finished.ensures.found)

pub returns-in_err-finished-2-clause-refused : goal.returns-in_err-finished-2-clause-refused
returns-in_err-finished-2-clause-refused c = passed _ _ c.from_residual-in_err-finished-2.ensures.1 c.in_err-finished-2.ensures.refused (λ r h n. falling_more (c.sees_word-else-sees_word.ensures.yes c.if-sees_word-2.true) h.0 (sym c.direction_goes_on-then-sees_word-2.ensures ∙ h.1))

pub returns-in_ok-finished-2-clause-found : goal.returns-in_ok-finished-2-clause-found
returns-in_ok-finished-2-clause-found c = λ n. falling (c.sees_word-else-sees_word.ensures.yes c.if-sees_word-2.true) (sym c.direction_goes_on-then-sees_word-2.ensures ∙ c.in_ok-finished-2.ensures.found)

pub returns-else-sees_word-2-clause-found : goal.returns-else-sees_word-2-clause-found
returns-else-sees_word-2-clause-found c = λ n. no_direction (c.sees_word.ensures.no c.if-sees_word.false) (c.sees_word-else-sees_word.ensures.no c.if-sees_word-2.false)
