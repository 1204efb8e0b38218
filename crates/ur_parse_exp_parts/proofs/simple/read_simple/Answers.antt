use Rattle.ur_parse_rules.proofs.Steps.{passed}
use Rattle.ur_parse_rules.proofs.Places.{mark_moves, name_moves}
use Rattle.ur_parse_exp_parts.proofs.Simples.{int_read, string_read, variable_read, no_string, no_atom}
use Rattle.ur_parse_exp_parts.proofs.simple.read_simple.Goals as goal

pub returns-in_err-text-clause-refused : goal.returns-in_err-text-clause-refused
returns-in_err-text-clause-refused c = λ o. passed _ _ c.from_residual.ensures.1 c.in_err-text.ensures.refused (λ r h n. no_string c.args.first (c.sees.ensures.yes c.if-sees.true) h n)

pub returns-in_ok-made-clause-found : goal.returns-in_ok-made-clause-found
returns-in_ok-made-clause-found c = λ n. let e0 = c.in_ok-made.ensures.found.0 in let e1 = c.in_ok-made.ensures.found.1 in let s = c.span-covered.ensures in
    rw (e0, e1, s) (string_read c.args.first (name_moves c.in_ok-text.ensures.found) c.in_ok-text.ensures.found n)

pub returns-in_ok-made-in-Some-clause-found : goal.returns-in_ok-made-in-Some-clause-found
returns-in_ok-made-in-Some-clause-found c = λ n. let e0 = c.in_ok-made-in-Some.ensures.found.0 in let e1 = c.in_ok-made-in-Some.ensures.found.1 in let s = c.span-covered-in-Some.ensures in
    rw (e0, e1, s) (int_read c.args.first (mark_moves c.in-Some.ensures) c.in-Some.ensures n)

pub returns-in_err-name-in-None-clause-refused : goal.returns-in_err-name-in-None-clause-refused
returns-in_err-name-in-None-clause-refused c = λ o. passed _ _ c.from_residual-in_err-name-in-None.ensures.1 c.in_err-name-in-None.ensures.refused (λ r h n. no_atom c.args.first o (c.sees.ensures.no c.if-sees.false) c.in-None.ensures h n)

pub returns-in_ok-made-in-None-clause-found : goal.returns-in_ok-made-in-None-clause-found
returns-in_ok-made-in-None-clause-found c = λ n. let e0 = c.in_ok-made-in-None.ensures.found.0 in let e1 = c.in_ok-made-in-None.ensures.found.1 in let s = c.span-covered-in-None.ensures in
    rw (e0, e1, s) (variable_read c.args.first (name_moves c.in_ok-name-in-None.ensures.found) c.in_ok-name-in-None.ensures.found n)
