use Rattle.ur_parse_rules.proofs.Steps.{passed}
use Rattle.ur_parse_exp_parts.proofs.Bindings.{arrow_missing, no_variable, no_arrow}
use Rattle.ur_parse_exp_parts.proofs.bound.binding.Goals as goal

pub returns-in_err-begin-clause-refused : goal.returns-in_err-begin-clause-refused
returns-in_err-begin-clause-refused c = passed _ _ c.from_residual.ensures.1 c.in_err-begin.ensures.refused (λ r h m n e. arrow_missing m n e (c.sees.ensures.yes c.if-sees.true) h)

pub returns-in_err-name-clause-refused : goal.returns-in_err-name-clause-refused
returns-in_err-name-clause-refused c = passed _ _ c.from_residual-in_err-name.ensures.1 c.in_err-name.ensures.refused (λ r h m n e. no_variable m n e c.requires (c.sees.ensures.no c.if-sees.false) h)

pub returns-in_err-begin-2-clause-refused : goal.returns-in_err-begin-2-clause-refused
returns-in_err-begin-2-clause-refused c = passed _ _ c.from_residual-in_err-begin-2.ensures.1 c.in_err-begin-2.ensures.refused (λ r h m n e. no_arrow m n e c.requires (c.sees.ensures.no c.if-sees.false) c.in_ok-name.ensures.found h)
