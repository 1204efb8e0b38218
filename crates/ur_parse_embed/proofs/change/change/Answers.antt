use Rattle.ur_parse_rules.proofs.Steps.{passed}
use Rattle.ur_parse_embed.proofs.Statements.{no_change}
use Rattle.ur_parse_embed.proofs.change.change.Goals as goal

pub returns-in_err-begin-clause-refused : goal.returns-in_err-begin-clause-refused
returns-in_err-begin-clause-refused c = passed _ _ c.from_residual.ensures.1 c.in_err-begin.ensures.refused (λ r h. no_change (c.sees_word.ensures.no c.if-sees_word.false) (c.sees_word-else-sees_word.ensures.no c.if-sees_word-2.false) h)
