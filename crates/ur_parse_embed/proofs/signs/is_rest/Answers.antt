use Rattle.ur_parse_rules.proofs.Steps.{passed}
use Rattle.ur_parse_embed.proofs.Comparing.{null_is, not_null_is, not_null_missing, null_missing}
use Rattle.ur_parse_embed.proofs.signs.is_rest.Goals as goal

pub returns-in_err-end-clause-refused : goal.returns-in_err-end-clause-refused
returns-in_err-end-clause-refused c = passed _ _ c.from_residual.ensures.1 c.in_err-end.ensures.refused (λ r h n. not_null_missing (c.sees_word.ensures.yes c.if-sees_word.true) h)

pub returns-in_ok-end-clause-found : goal.returns-in_ok-end-clause-found
returns-in_ok-end-clause-found c = λ n. not_null_is (c.sees_word.ensures.yes c.if-sees_word.true) c.in_ok-end.ensures.found

pub returns-in_err-end-2-clause-refused : goal.returns-in_err-end-2-clause-refused
returns-in_err-end-2-clause-refused c = passed _ _ c.from_residual-in_err-end-2.ensures.1 c.in_err-end-2.ensures.refused (λ r h n. null_missing (c.sees_word.ensures.no c.if-sees_word.false) h)

pub returns-in_ok-end-2-clause-found : goal.returns-in_ok-end-2-clause-found
returns-in_ok-end-2-clause-found c = λ n. null_is c.in_ok-end-2.ensures.found
