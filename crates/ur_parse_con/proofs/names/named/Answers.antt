use Rattle.std.proofs.Common.{refl, arith, sym, ◌∙◌, ◌+◌, ◌≡◌}
use Rattle.ur_parse_rules.proofs.Steps.{passed}
use Rattle.ur_parse_rules.proofs.Places.{name_moves, mark_moves, moves_on}
use Rattle.ur_parse_con.proofs.Atoms.{variable_read, variable_refused, name_of_read, name_of_refused, member_read, member_dot, member_name, none_named}
use Rattle.ur_parse_con.proofs.names.named.Goals as goal

pub returns-in_err-name-clause-refused : goal.returns-in_err-name-clause-refused
returns-in_err-name-clause-refused c = λ o. passed _ _ c.from_residual.ensures.1 c.in_err-name.ensures.refused (λ r h n. variable_refused (c.sees.ensures.yes c.if-sees.true) h)

pub returns-in_ok-name-clause-found : goal.returns-in_ok-name-clause-found
returns-in_ok-name-clause-found c = λ n. let e = c.leaf.ensures.tree in let f = c.leaf.ensures.end in let s = c.span-covered.ensures in rw (e, f, s) (variable_read (name_moves c.in_ok-name.ensures.found) c.in_ok-name.ensures.found)

pub returns-in_err-name-2-clause-refused : goal.returns-in_err-name-2-clause-refused
returns-in_err-name-2-clause-refused c = λ o. passed _ _ c.from_residual-in_err-name-2.ensures.1 c.in_err-name-2.ensures.refused (λ r h n. name_of_refused (c.sees-else-sees.ensures.yes c.if-sees-2.true) h)

pub returns-in_ok-name-2-clause-found : goal.returns-in_ok-name-2-clause-found
returns-in_ok-name-2-clause-found c = λ n. let e = c.leaf-then-sees-2.ensures.tree in let f = c.leaf-then-sees-2.ensures.end in let s = c.span-covered-then-sees-2.ensures in rw (e, f, s) (name_of_read (moves_on (mark_moves (c.sees-else-sees.ensures.yes c.if-sees-2.true)) (name_moves c.in_ok-name-2.ensures.found)) (c.sees-else-sees.ensures.yes c.if-sees-2.true) c.in_ok-name-2.ensures.found)

pub returns-in_err-module-clause-refused : goal.returns-in_err-module-clause-refused
returns-in_err-module-clause-refused c = λ o. passed _ _ c.from_residual-in_err-module.ensures.1 c.in_err-module.ensures.refused (λ r h n. none_named (c.sees.ensures.no c.if-sees.false) (c.sees-else-sees.ensures.no c.if-sees-2.false) o h)

pub returns-in_err-dot-clause-refused : goal.returns-in_err-dot-clause-refused
returns-in_err-dot-clause-refused c = λ o. passed _ _ c.from_residual-in_err-dot.ensures.1 c.in_err-dot.ensures.refused (λ r h n. member_dot c.in_ok-module.ensures.found h)

pub returns-in_err-name-3-clause-refused : goal.returns-in_err-name-3-clause-refused
returns-in_err-name-3-clause-refused c = λ o. passed _ _ c.from_residual-in_err-name-3.ensures.1 c.in_err-name-3.ensures.refused (λ r h n. member_name c.in_ok-module.ensures.found c.in_ok-dot.ensures.found h)

pub returns-in_ok-name-3-clause-found : goal.returns-in_ok-name-3-clause-found
returns-in_ok-name-3-clause-found c = λ n. let e = c.leaf-else-sees-2.ensures.tree in let f = c.leaf-else-sees-2.ensures.end in let s = c.span-covered-else-sees-2.ensures in rw (e, f, s) (member_read (moves_on (name_moves c.in_ok-module.ensures.found) (moves_on (mark_moves c.in_ok-dot.ensures.found) (name_moves c.in_ok-name-3.ensures.found))) c.in_ok-module.ensures.found c.in_ok-dot.ensures.found c.in_ok-name-3.ensures.found)
