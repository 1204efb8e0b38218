use Rattle.std.proofs.Common.{sym, ◌∙◌, drop, []}
use Rattle.ur_parse_rules.proofs.Steps.{passed}
use Rattle.ur_parse_embed.proofs.Ending.{none_starts}
use Rattle.ur_parse_embed.proofs.Limiting.{offset_none, offset_refused, offset_again, offset_read}
use Rattle.ur_parse_embed.proofs.clauses.offset.Goals as goal

pub returns-in_err-amount-clause-refused : goal.returns-in_err-amount-clause-refused
returns-in_err-amount-clause-refused c = passed _ _ c.from_residual.ensures.1 c.in_err-amount.ensures.refused (λ r h. offset_refused (c.sees_word.ensures.yes c.if-sees_word.true) h)

pub returns-in_err-finished-clause-refused : goal.returns-in_err-finished-clause-refused
returns-in_err-finished-clause-refused c = passed _ _ c.from_residual-in_err-finished.ensures.1 c.in_err-finished.ensures.refused (λ r h. offset_again (c.sees_word.ensures.yes c.if-sees_word.true) c.in_ok-amount.end c.in_ok-amount.ensures.found h.0 (sym (c.word_or.ensures [] (none_starts (drop c.in_ok-amount.end c.args.tokens.now))) ∙ h.1))

pub returns-in_ok-finished-clause-found : goal.returns-in_ok-finished-clause-found
returns-in_ok-finished-clause-found c = offset_read (c.sees_word.ensures.yes c.if-sees_word.true) c.in_ok-amount.end c.in_ok-amount.ensures.found (sym (c.word_or.ensures [] (none_starts (drop c.in_ok-amount.end c.args.tokens.now))) ∙ c.in_ok-finished.ensures.found)

pub returns-else-sees_word-clause-found : goal.returns-else-sees_word-clause-found
returns-else-sees_word-clause-found c = offset_none _ (c.sees_word.ensures.no c.if-sees_word.false)
