use Rattle.ur_parse_rules.proofs.Steps.{passed}
use Rattle.ur_parse_exp_parts.proofs.Members.{nil_read}
use Rattle.ur_parse_exp_parts.proofs.capital.read_nil.Goals as goal

pub returns-in_err-made-clause-refused : goal.returns-in_err-made-clause-refused
returns-in_err-made-clause-refused c = passed _ _ c.from_residual-in_err-made.ensures.1 c.in_err-made.ensures.refused (λ r h n. let e = c.in_ok-nil.ensures.found.1 in rw e at (h n))

pub returns-clause-found : goal.returns-clause-found
returns-clause-found c = let e0 = c.in_ok-nil.ensures.found.0 in let e1 = c.in_ok-nil.ensures.found.1 in let s = c.span-covered.ensures in nil_read (rw (e0, e1, s) at c.in_ok-made.ensures.found)
