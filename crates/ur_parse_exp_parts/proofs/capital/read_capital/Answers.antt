use Rattle.ur_parse_rules.proofs.Steps.{passed}
use Rattle.ur_parse_exp_parts.proofs.Members.{capital_alone, no_lower, no_member, lower_refused, upper_refused, lower_read, upper_read}
use Rattle.ur_parse_exp_parts.proofs.capital.read_capital.Goals as goal

pub returns-in_err-inner-clause-refused : goal.returns-in_err-inner-clause-refused
returns-in_err-inner-clause-refused c = passed _ _ c.from_residual.ensures.1 c.in_err-inner.ensures.refused (λ r h n. no_lower (c.sees.ensures.yes c.if-sees.true) (c.sees-then-sees.ensures.yes c.if-sees-2.true) h)

pub returns-in_err-inner-2-clause-refused : goal.returns-in_err-inner-2-clause-refused
returns-in_err-inner-2-clause-refused c = passed _ _ c.from_residual-in_err-inner-2.ensures.1 c.in_err-inner-2.ensures.refused (λ r h n. no_member (c.sees.ensures.yes c.if-sees.true) (c.sees-then-sees.ensures.no c.if-sees-2.false) h)

pub returns-in_err-made-clause-refused : goal.returns-in_err-made-clause-refused
returns-in_err-made-clause-refused c = passed _ _ c.from_residual-in_err-made.ensures.1 c.in_err-made.ensures.refused (λ r h n. let e = c.in_ok-member.ensures.found.1 in lower_refused (c.sees.ensures.yes c.if-sees.true) c.in_ok-inner.ensures.found (rw e at (h n)))

pub returns-in_ok-made-clause-found : goal.returns-in_ok-made-clause-found
returns-in_ok-made-clause-found c = let e0 = c.in_ok-member.ensures.found.0 in let e1 = c.in_ok-member.ensures.found.1 in let s = c.span-covered.ensures in
    lower_read (c.sees.ensures.yes c.if-sees.true) c.in_ok-made.ensures.moves c.in_ok-inner.ensures.found (rw (e0, e1, s) at c.in_ok-made.ensures.found)

pub returns-in_err-made-2-clause-refused : goal.returns-in_err-made-2-clause-refused
returns-in_err-made-2-clause-refused c = passed _ _ c.from_residual-in_err-made-2.ensures.1 c.in_err-made-2.ensures.refused (λ r h n. let e = c.in_ok-member-2.ensures.found.1 in upper_refused (c.sees.ensures.yes c.if-sees.true) c.in_ok-inner-2.ensures.found (rw e at (h n)))

pub returns-in_ok-made-2-clause-found : goal.returns-in_ok-made-2-clause-found
returns-in_ok-made-2-clause-found c = let e0 = c.in_ok-member-2.ensures.found.0 in let e1 = c.in_ok-member-2.ensures.found.1 in let s = c.span-covered-else-sees-2.ensures in
    upper_read (c.sees.ensures.yes c.if-sees.true) c.in_ok-made-2.ensures.moves c.in_ok-inner-2.ensures.found (rw (e0, e1, s) at c.in_ok-made-2.ensures.found)

pub returns-in_ok-made-3-clause-found : goal.returns-in_ok-made-3-clause-found
returns-in_ok-made-3-clause-found c = let e0 = c.in_ok-made-3.ensures.found.0 in let e1 = c.in_ok-made-3.ensures.found.1 in let s = c.span-covered-else-sees.ensures in
    rw (e0, e1, s) (capital_alone (c.sees.ensures.no c.if-sees.false))
