use Rattle.ur_parse_rules.proofs.Steps.{passed}
use Rattle.ur_parse_embed.proofs.Limiting.{number_amount, shown_refused, shown_amount}
use Rattle.ur_parse_embed.proofs.clauses.amount.Goals as goal

pub returns-in-Some-clause-found : goal.returns-in-Some-clause-found
returns-in-Some-clause-found c = number_amount _ c.in-Some.ensures

pub returns-in_err-number-in-None-clause-refused : goal.returns-in_err-number-in-None-clause-refused
returns-in_err-number-in-None-clause-refused c = passed _ _ c.from_residual.ensures.1 c.in_err-number-in-None.ensures.refused (λ r h. shown_refused c.in-None.ensures (h _))

pub returns-in_ok-number-in-None-clause-found : goal.returns-in_ok-number-in-None-clause-found
returns-in_ok-number-in-None-clause-found c = shown_amount c.args.tokens.now c.args.at c.in_ok-number-in-None.end c.in_ok-number-in-None.ensures.found
