use Rattle.ur_parse_rules.proofs.Steps.{passed}
use Rattle.ur_parse_embed.proofs.Columned.{qualifier_none, qualifier_name, qualifier_twice, qualifier_read}
use Rattle.ur_parse_embed.proofs.columns.qualifier.Goals as goal

pub returns-in_err-name-clause-refused : goal.returns-in_err-name-clause-refused
returns-in_err-name-clause-refused c = passed _ _ c.from_residual.ensures.1 c.in_err-name.ensures.refused (λ r h n. qualifier_name (c.sees.ensures.yes c.if-sees.true) h)

pub returns-in_err-absent-clause-refused : goal.returns-in_err-absent-clause-refused
returns-in_err-absent-clause-refused c = passed _ _ c.from_residual-in_err-absent.ensures.1 c.in_err-absent.ensures.refused (λ r h n. qualifier_twice (c.sees.ensures.yes c.if-sees.true) c.in_ok-name.ensures.found h)

pub returns-in_ok-absent-clause-found : goal.returns-in_ok-absent-clause-found
returns-in_ok-absent-clause-found c = λ n. qualifier_read (c.sees.ensures.yes c.if-sees.true) c.in_ok-name.ensures.found c.in_ok-absent.ensures.found

pub returns-else-sees-clause-found : goal.returns-else-sees-clause-found
returns-else-sees-clause-found c = λ n. qualifier_none (c.sees.ensures.no c.if-sees.false)
