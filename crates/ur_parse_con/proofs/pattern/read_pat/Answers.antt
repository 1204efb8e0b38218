use Rattle.std.proofs.Common.{◌∙◌, sym}
use Rattle.ur_parse_rules.proofs.Steps.{passed, made}
use Rattle.ur_parse_con.proofs.pattern.read_pat.Goals as goal

pub returns-in_err-form-clause-refused : goal.returns-in_err-form-clause-refused
returns-in_err-form-clause-refused c = passed _ _ c.from_residual.ensures.1 c.in_err-form.ensures.refused (λ r h n. h n)

pub returns-then-goes_on-clause-refused : goal.returns-then-goes_on-clause-refused
returns-then-goes_on-clause-refused c = made _ c.unexpected.ensures (λ r s n. c.in_ok-form.ensures.found.goes_on (sym c.goes_on.ensures ∙ c.if-goes_on.true) r s n)

pub returns-clause-found : goal.returns-clause-found
returns-clause-found c = λ n. let s = c.span-covered.ensures in rw s (c.in_ok-form.ensures.found.ends (sym c.goes_on.ensures ∙ c.if-goes_on.false) n)
