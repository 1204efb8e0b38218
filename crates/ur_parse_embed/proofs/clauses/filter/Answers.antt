use Rattle.std.proofs.Common.{sym, ◌∙◌}
use Rattle.ur_parse_rules.proofs.Steps.{passed}
use Rattle.ur_parse_embed.proofs.Filtering.{filter_more, filter_none, where_refused, where_more, where_read}
use Rattle.ur_parse_embed.proofs.clauses.filter.Goals as goal

pub returns-in_err-inner-clause-refused : goal.returns-in_err-inner-clause-refused
returns-in_err-inner-clause-refused c = passed _ _ c.from_residual.ensures.1 c.in_err-inner.ensures.refused (λ r h. where_refused c.args.bare (c.sees_word.ensures.yes c.if-sees_word.true) h)

pub returns-in_err-finished-clause-refused : goal.returns-in_err-finished-clause-refused
returns-in_err-finished-clause-refused c = passed _ _ c.from_residual-in_err-finished.ensures.1 c.in_err-finished.ensures.refused (λ r h. where_more c.args.bare (c.sees_word.ensures.yes c.if-sees_word.true) c.in_ok-inner.end c.in_ok-inner.ensures.found h.0 (sym c.filter_goes_on.ensures ∙ h.1))

pub returns-in_ok-finished-clause-found : goal.returns-in_ok-finished-clause-found
returns-in_ok-finished-clause-found c = where_read c.args.bare (c.sees_word.ensures.yes c.if-sees_word.true) c.in_ok-inner.end c.in_ok-inner.ensures.found (sym c.filter_goes_on.ensures ∙ c.in_ok-finished.ensures.found)

pub returns-in_err-finished-2-clause-refused : goal.returns-in_err-finished-2-clause-refused
returns-in_err-finished-2-clause-refused c = passed _ _ c.from_residual-in_err-finished-2.ensures.1 c.in_err-finished-2.ensures.refused (λ r h. filter_more c.args.bare (c.sees_word.ensures.no c.if-sees_word.false) h.0 (sym c.filter_goes_on-else-sees_word.ensures ∙ h.1))

pub returns-in_ok-finished-2-clause-found : goal.returns-in_ok-finished-2-clause-found
returns-in_ok-finished-2-clause-found c = filter_none c.args.bare c.args.tokens.now c.args.at _ (sym c.filter_goes_on-else-sees_word.ensures ∙ c.in_ok-finished-2.ensures.found)
