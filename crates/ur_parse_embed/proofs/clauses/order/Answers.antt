use Rattle.std.proofs.Common.{sym, ◌∙◌}
use Rattle.ur_parse_rules.proofs.Steps.{passed}
use Rattle.ur_parse_embed.proofs.Ordering.{order_more, order_none, order_by, order_first, order_rest, order_again, order_read}
use Rattle.ur_parse_embed.proofs.clauses.order.Goals as goal

pub returns-in_err-begin-clause-refused : goal.returns-in_err-begin-clause-refused
returns-in_err-begin-clause-refused c = passed _ _ c.from_residual.ensures.1 c.in_err-begin.ensures.refused (λ r h. order_by (c.sees_word.ensures.yes c.if-sees_word.true) h)

pub returns-in_err-first-clause-refused : goal.returns-in_err-first-clause-refused
returns-in_err-first-clause-refused c = passed _ _ c.from_residual-in_err-first.ensures.1 c.in_err-first.ensures.refused (λ r h. order_first (c.sees_word.ensures.yes c.if-sees_word.true) c.in_ok-begin.ensures.found h)

pub returns-in_err-end-clause-refused : goal.returns-in_err-end-clause-refused
returns-in_err-end-clause-refused c = passed _ _ c.from_residual-in_err-end.ensures.1 c.in_err-end.ensures.refused (λ r h. order_rest (c.sees_word.ensures.yes c.if-sees_word.true) c.in_ok-begin.ensures.found c.in_ok-first.behind c.in_ok-first.ensures.found h)

pub returns-in_err-finished-clause-refused : goal.returns-in_err-finished-clause-refused
returns-in_err-finished-clause-refused c = passed _ _ c.from_residual-in_err-finished.ensures.1 c.in_err-finished.ensures.refused (λ r h. order_again (c.sees_word.ensures.yes c.if-sees_word.true) c.in_ok-begin.ensures.found c.in_ok-first.behind c.in_ok-first.ensures.found c.in_ok-end.end c.in_ok-end.ensures.found h.0 (sym c.order_goes_on.ensures ∙ h.1))

pub returns-in_ok-finished-clause-found : goal.returns-in_ok-finished-clause-found
returns-in_ok-finished-clause-found c = order_read (c.sees_word.ensures.yes c.if-sees_word.true) c.in_ok-begin.ensures.found c.in_ok-first.behind c.in_ok-first.ensures.found c.in_ok-end.end c.in_ok-end.ensures.found c.in_ok-list.ensures.found (sym c.order_goes_on.ensures ∙ c.in_ok-finished.ensures.found)

pub returns-in_err-finished-2-clause-refused : goal.returns-in_err-finished-2-clause-refused
returns-in_err-finished-2-clause-refused c = passed _ _ c.from_residual-in_err-finished-2.ensures.1 c.in_err-finished-2.ensures.refused (λ r h. order_more (c.sees_word.ensures.no c.if-sees_word.false) h.0 (sym c.order_goes_on-else-sees_word.ensures ∙ h.1))

pub returns-in_ok-finished-2-clause-found : goal.returns-in_ok-finished-2-clause-found
returns-in_ok-finished-2-clause-found c = let e = c.new.ensures in rw e (order_none c.args.tokens.now c.args.at _ (sym c.order_goes_on-else-sees_word.ensures ∙ c.in_ok-finished-2.ensures.found))
