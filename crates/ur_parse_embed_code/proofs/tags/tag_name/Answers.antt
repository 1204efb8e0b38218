use Rattle.ur_parse_rules.proofs.Steps.{passed}
use Rattle.ur_parse_rules.proofs.Places.{name_moves, mark_moves, moves_on}
use Rattle.ur_parse_embed_code.proofs.Tagged.{literal_read, variable_read, literal_refused, no_tag_name}
use Rattle.ur_parse_embed_code.proofs.tags.tag_name.Goals as goal

pub returns-in_err-name-clause-refused : goal.returns-in_err-name-clause-refused
returns-in_err-name-clause-refused c = passed _ _ c.from_residual.ensures.1 c.in_err-name.ensures.refused (λ r h n. literal_refused (c.sees.ensures.yes c.if-sees.true) h)

pub returns-in_ok-name-clause-moves : goal.returns-in_ok-name-clause-moves
returns-in_ok-name-clause-moves c = moves_on (mark_moves (c.sees.ensures.yes c.if-sees.true)) (name_moves c.in_ok-name.ensures.found)

pub returns-in_ok-name-clause-found : goal.returns-in_ok-name-clause-found
returns-in_ok-name-clause-found c = λ n. literal_read (c.sees.ensures.yes c.if-sees.true) c.in_ok-name.ensures.found

pub returns-in_err-name-2-clause-refused : goal.returns-in_err-name-2-clause-refused
returns-in_err-name-2-clause-refused c = passed _ _ c.from_residual-in_err-name-2.ensures.1 c.in_err-name-2.ensures.refused (λ r h n. no_tag_name (c.sees.ensures.no c.if-sees.false) h)

pub returns-in_ok-name-2-clause-moves : goal.returns-in_ok-name-2-clause-moves
returns-in_ok-name-2-clause-moves c = name_moves c.in_ok-name-2.ensures.found

pub returns-in_ok-name-2-clause-found : goal.returns-in_ok-name-2-clause-found
returns-in_ok-name-2-clause-found c = λ n. variable_read c.in_ok-name-2.ensures.found
