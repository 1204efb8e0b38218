use Rattle.ur_parse_rules.proofs.Steps.{passed}
use Rattle.ur_parse_embed.proofs.Changing.{assigned_missing, equals_missing, value_refused, assignment_read}
use Rattle.ur_parse_embed.proofs.assigning.assignment.Goals as goal

pub returns-in_err-column-clause-refused : goal.returns-in_err-column-clause-refused
returns-in_err-column-clause-refused c = passed _ _ c.from_residual.ensures.1 c.in_err-column.ensures.refused (λ r h. assigned_missing c.args.tokens.now c.args.at h)

pub returns-in_err-begin-clause-refused : goal.returns-in_err-begin-clause-refused
returns-in_err-begin-clause-refused c = passed _ _ c.from_residual-in_err-begin.ensures.1 c.in_err-begin.ensures.refused (λ r h. equals_missing c.args.tokens.now c.args.at c.in_ok-column.ensures.found h)

pub returns-in_err-value-clause-refused : goal.returns-in_err-value-clause-refused
returns-in_err-value-clause-refused c = passed _ _ c.from_residual-in_err-value.ensures.1 c.in_err-value.ensures.refused (λ r h. value_refused c.args.tokens.now c.args.at c.in_ok-column.ensures.found c.in_ok-begin.ensures.found h)

pub returns-clause-found : goal.returns-clause-found
returns-clause-found c = assignment_read c.args.tokens.now c.args.at c.in_ok-column.ensures.found c.in_ok-begin.ensures.found c.in_ok-value.end c.in_ok-value.ensures.found
