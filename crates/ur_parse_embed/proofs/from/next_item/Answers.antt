use Rattle.std.proofs.Common.{refl}
use Rattle.ur_parse_rules.proofs.Steps.{passed}
use Rattle.ur_parse_embed.specs.Items.{listed, joined, not_listed, not_joined, neither}
use Rattle.ur_parse_embed.proofs.from.next_item.Goals as goal

pub returns-in_err-found-clause-refused : goal.returns-in_err-found-clause-refused
returns-in_err-found-clause-refused c = passed _ _ c.from_residual.ensures.1 c.in_err-found.ensures.refused (λ r h. not_listed (c.sees.ensures.yes c.if-sees.true) (h _))

pub returns-in_ok-found-clause-found : goal.returns-in_ok-found-clause-found
returns-in_ok-found-clause-found c = listed (c.sees.ensures.yes c.if-sees.true) (c.in_ok-found.ensures.found _) refl

pub returns-in_err-begin-clause-refused : goal.returns-in_err-begin-clause-refused
returns-in_err-begin-clause-refused c = passed _ _ c.from_residual-in_err-begin.ensures.1 c.in_err-begin.ensures.refused (λ r h. neither (c.sees.ensures.no c.if-sees.false) h)

pub returns-in_err-found-2-clause-refused : goal.returns-in_err-found-2-clause-refused
returns-in_err-found-2-clause-refused c = passed _ _ c.from_residual-in_err-found-2.ensures.1 c.in_err-found-2.ensures.refused (λ r h. not_joined _ c.in_ok-begin.ensures.found h)

pub returns-in_ok-found-2-clause-found : goal.returns-in_ok-found-2-clause-found
returns-in_ok-found-2-clause-found c = joined _ c.in_ok-begin.ensures.found c.in_ok-found-2.ensures.found
