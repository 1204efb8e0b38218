use Rattle.std.proofs.Common.{sym, ◌∙◌, drop, []}
use Rattle.ur_parse_rules.proofs.Steps.{passed}
use Rattle.ur_parse_embed.proofs.Ending.{none_starts}
use Rattle.ur_parse_embed.proofs.Naming.{alias_none, alias_name, alias_twice, alias_read}
use Rattle.ur_parse_embed.proofs.tables.alias.Goals as goal

pub returns-in_err-name-clause-refused : goal.returns-in_err-name-clause-refused
returns-in_err-name-clause-refused c = passed _ _ c.from_residual.ensures.1 c.in_err-name.ensures.refused (λ r h n. alias_name (c.sees_word.ensures.yes c.if-sees_word.true) h)

pub returns-in_err-finished-clause-refused : goal.returns-in_err-finished-clause-refused
returns-in_err-finished-clause-refused c = passed _ _ c.from_residual-in_err-finished.ensures.1 c.in_err-finished.ensures.refused (λ r h n. alias_twice (c.sees_word.ensures.yes c.if-sees_word.true) c.in_ok-name.ensures.found h.0 (sym (c.word_or-more.ensures [] (none_starts (drop c.in_ok-name.end c.args.tokens.now))) ∙ h.1))

pub returns-in_ok-finished-clause-found : goal.returns-in_ok-finished-clause-found
returns-in_ok-finished-clause-found c = λ n. alias_read (c.sees_word.ensures.yes c.if-sees_word.true) c.in_ok-name.ensures.found (sym (c.word_or-more.ensures [] (none_starts (drop c.in_ok-name.end c.args.tokens.now))) ∙ c.in_ok-finished.ensures.found)

pub returns-else-sees_word-clause-found : goal.returns-else-sees_word-clause-found
returns-else-sees_word-clause-found c = λ n. alias_none (c.sees_word.ensures.no c.if-sees_word.false)
