use Rattle.std.proofs.Common.{sym, ◌∙◌}
use Rattle.ur_parse_rules.proofs.Steps.{passed}
use Rattle.ur_parse_embed.proofs.Ordering.{key_refused, direction_refused, key_more, key_read}
use Rattle.ur_parse_embed.proofs.clauses.order_key.Goals as goal

pub returns-in_err-inner-clause-refused : goal.returns-in_err-inner-clause-refused
returns-in_err-inner-clause-refused c = passed _ _ c.from_residual.ensures.1 c.in_err-inner.ensures.refused (λ r h. key_refused c.args.tokens.now c.args.at h)

pub returns-in_err-direction-clause-refused : goal.returns-in_err-direction-clause-refused
returns-in_err-direction-clause-refused c = passed _ _ c.from_residual-in_err-direction.ensures.1 c.in_err-direction.ensures.refused (λ r h. direction_refused c.args.tokens.now c.args.at c.in_ok-inner.middle c.in_ok-inner.ensures.found (h _))

pub returns-in_err-finished-clause-refused : goal.returns-in_err-finished-clause-refused
returns-in_err-finished-clause-refused c = passed _ _ c.from_residual-in_err-finished.ensures.1 c.in_err-finished.ensures.refused (λ r h. key_more c.args.tokens.now c.args.at c.in_ok-inner.middle c.in_ok-inner.ensures.found c.in_ok-direction.end (c.in_ok-direction.ensures.found _) h.0 (sym c.key_goes_on.ensures ∙ h.1))

pub returns-clause-found : goal.returns-clause-found
returns-clause-found c = key_read c.args.tokens.now c.args.at c.in_ok-inner.middle c.in_ok-inner.ensures.found c.in_ok-direction.end (c.in_ok-direction.ensures.found _) (sym c.key_goes_on.ensures ∙ c.in_ok-finished.ensures.found)
