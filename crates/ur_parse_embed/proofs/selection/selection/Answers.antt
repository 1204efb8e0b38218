use Rattle.std.proofs.Common.{sym, ◌∙◌}
use Rattle.ur_parse_rules.proofs.Steps.{passed}
use Rattle.ur_parse_embed.proofs.Selecting.{all_more, all_read, first_refused, rest_refused, items_read}
use Rattle.ur_parse_embed.proofs.selection.selection.Goals as goal

pub returns-in_err-finished-clause-refused : goal.returns-in_err-finished-clause-refused
returns-in_err-finished-clause-refused c = passed _ _ c.from_residual.ensures.1 c.in_err-finished.ensures.refused (λ r h. all_more (c.sees.ensures.yes c.if-sees.true) h.0 (sym c.selection_goes_on.ensures ∙ h.1))

pub returns-in_ok-finished-clause-found : goal.returns-in_ok-finished-clause-found
returns-in_ok-finished-clause-found c = all_read (c.sees.ensures.yes c.if-sees.true) _ (sym c.selection_goes_on.ensures ∙ c.in_ok-finished.ensures.found)

pub returns-in_err-first-clause-refused : goal.returns-in_err-first-clause-refused
returns-in_err-first-clause-refused c = passed _ _ c.from_residual-in_err-first.ensures.1 c.in_err-first.ensures.refused (λ r h. first_refused (c.sees.ensures.no c.if-sees.false) h)

pub returns-in_err-end-clause-refused : goal.returns-in_err-end-clause-refused
returns-in_err-end-clause-refused c = passed _ _ c.from_residual-in_err-end.ensures.1 c.in_err-end.ensures.refused (λ r h. rest_refused (c.sees.ensures.no c.if-sees.false) c.in_ok-first.behind c.in_ok-first.ensures.found h)

pub returns-in_ok-end-clause-found : goal.returns-in_ok-end-clause-found
returns-in_ok-end-clause-found c = let e = c.in_ok-list.ensures.found in let d = c.in_ok-end.ensures.found in let y = d.is in rw (y, e) (items_read (c.sees.ensures.no c.if-sees.false) c.in_ok-first.behind c.in_ok-first.ensures.found c.in_ok-end.end d.makes)
