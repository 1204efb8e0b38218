use Rattle.ur_parse_rules.proofs.Steps.{passed}
use Rattle.ur_parse_rules.proofs.Places.{mark_moves, name_moves, moves_on}
use Rattle.ur_parse_exp_parts.proofs.ParseExpFormsNaming.{bare_read, bare_refused, no_decl, dot_missing, inner_missing, member_read}
use Rattle.ur_parse_exp_parts.proofs.name.decl_name.Goals as goal

pub returns-in_err-text-clause-refused : goal.returns-in_err-text-clause-refused
returns-in_err-text-clause-refused c = passed _ _ c.from_residual.ensures.1 c.in_err-text.ensures.refused (λ r h n. bare_refused (c.sees.ensures.yes c.if-sees.true) h n)

pub returns-in_ok-text-clause-found : goal.returns-in_ok-text-clause-found
returns-in_ok-text-clause-found c = λ n. let s = c.span-covered.ensures in rw s (bare_read (name_moves c.in_ok-text.ensures.found) c.in_ok-text.ensures.found n)

pub returns-in_err-module-clause-refused : goal.returns-in_err-module-clause-refused
returns-in_err-module-clause-refused c = passed _ _ c.from_residual-in_err-module.ensures.1 c.in_err-module.ensures.refused (λ r h n. no_decl (c.sees.ensures.no c.if-sees.false) h n)

pub returns-in_err-begin-clause-refused : goal.returns-in_err-begin-clause-refused
returns-in_err-begin-clause-refused c = passed _ _ c.from_residual-in_err-begin.ensures.1 c.in_err-begin.ensures.refused (λ r h n. dot_missing c.in_ok-module.ensures.found h n)

pub returns-in_err-text-2-clause-refused : goal.returns-in_err-text-2-clause-refused
returns-in_err-text-2-clause-refused c = passed _ _ c.from_residual-in_err-text-2.ensures.1 c.in_err-text-2.ensures.refused (λ r h n. inner_missing c.in_ok-module.ensures.found c.in_ok-begin.ensures.found h n)

pub returns-in_ok-text-2-clause-found : goal.returns-in_ok-text-2-clause-found
returns-in_ok-text-2-clause-found c = λ n. let s = c.span-covered-else-sees.ensures in
    rw s (member_read c.in_ok-module.ensures.found c.in_ok-begin.ensures.found (moves_on (name_moves c.in_ok-module.ensures.found) (moves_on (mark_moves c.in_ok-begin.ensures.found) (name_moves c.in_ok-text-2.ensures.found))) c.in_ok-text-2.ensures.found n)
