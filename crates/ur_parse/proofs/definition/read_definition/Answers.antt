use Rattle.ur_parse_rules.proofs.Steps.{passed}
use Rattle.ur_parse_rules.specs.Places.{Moves}
use Rattle.ur_parse_rules.proofs.Places.{mark_moves, name_moves, moves_on}
use Rattle.ur_parse_con.proofs.Binders.{stays_on}
use Rattle.ur_parse.proofs.Definitions.{definition_nameless, definition_con_params, definition_params, definition_mark, definition_con, definition_equals, definition_exp, definition_read}
use Rattle.ur_parse.proofs.definition.read_definition.Goals as goal

pub returns-in_err-name-clause-refused : goal.returns-in_err-name-clause-refused
returns-in_err-name-clause-refused c = passed _ _ c.from_residual.ensures.1 c.in_err-name.ensures.refused (λ r h. definition_nameless h)

pub returns-in_err-con_params-clause-refused : goal.returns-in_err-con_params-clause-refused
returns-in_err-con_params-clause-refused c = passed _ _ c.from_residual-in_err-con_params.ensures.1 c.in_err-con_params.ensures.refused (λ r h. definition_con_params c.in_ok-name.ensures.found h)

pub returns-in_err-params-clause-refused : goal.returns-in_err-params-clause-refused
returns-in_err-params-clause-refused c = passed _ _ c.from_residual-in_err-params.ensures.1 c.in_err-params.ensures.refused
    (λ r h. definition_params c.in_ok-name.ensures.found c.in_ok-con_params.con_params.end c.in_ok-con_params.ensures.found h)

pub returns-in_err-colon-clause-refused : goal.returns-in_err-colon-clause-refused
returns-in_err-colon-clause-refused c = passed _ _ c.from_residual-in_err-colon.ensures.1 c.in_err-colon.ensures.refused
    (λ r h. definition_mark c.in_ok-name.ensures.found c.in_ok-con_params.con_params.end c.in_ok-con_params.ensures.found c.in_ok-params.params.end c.in_ok-params.ensures.found h)

pub returns-in_err-con-clause-refused : goal.returns-in_err-con-clause-refused
returns-in_err-con-clause-refused c = passed _ _ c.from_residual-in_err-con.ensures.1 c.in_err-con.ensures.refused
    (λ r h. definition_con c.in_ok-name.ensures.found c.in_ok-con_params.con_params.end c.in_ok-con_params.ensures.found c.in_ok-params.params.end c.in_ok-params.ensures.found c.in_ok-colon.ensures.found h)

pub returns-in_err-value-clause-refused : goal.returns-in_err-value-clause-refused
returns-in_err-value-clause-refused c = passed _ _ c.from_residual-in_err-value.ensures.1 c.in_err-value.ensures.refused
    (λ r h. definition_equals c.in_ok-name.ensures.found c.in_ok-con_params.con_params.end c.in_ok-con_params.ensures.found c.in_ok-params.params.end c.in_ok-params.ensures.found c.in_ok-colon.ensures.found c.in_ok-con.con.end c.in_ok-con.ensures.found h)

pub returns-in_err-body-clause-refused : goal.returns-in_err-body-clause-refused
returns-in_err-body-clause-refused c = passed _ _ c.from_residual-in_err-body.ensures.1 c.in_err-body.ensures.refused
    (λ r h. definition_exp c.in_ok-name.ensures.found c.in_ok-con_params.con_params.end c.in_ok-con_params.ensures.found c.in_ok-params.params.end c.in_ok-params.ensures.found c.in_ok-colon.ensures.found c.in_ok-con.con.end c.in_ok-con.ensures.found c.in_ok-value.ensures.found h)

pub returns-clause-moves : goal.returns-clause-moves
returns-clause-moves c = let f = c.definition_of.ensures.end in
    rw f (moves_on (stays_on (stays_on (name_moves c.in_ok-name.ensures.found) c.in_ok-con_params.ensures.stays) c.in_ok-params.ensures.stays)
    (moves_on (mark_moves c.in_ok-colon.ensures.found) (moves_on c.in_ok-con.ensures.moves (moves_on (mark_moves c.in_ok-value.ensures.found) c.in_ok-body.ensures.moves))))

pub returns-clause-found : goal.returns-clause-found
returns-clause-found c = let e = c.definition_of.ensures.tree in let f = c.definition_of.ensures.end in let s = c.span-covered.ensures in
    let m : Moves c.args.tokens.now c.args.at c.in_ok-body.body.end = moves_on (stays_on (stays_on (name_moves c.in_ok-name.ensures.found) c.in_ok-con_params.ensures.stays) c.in_ok-params.ensures.stays)
    (moves_on (mark_moves c.in_ok-colon.ensures.found) (moves_on c.in_ok-con.ensures.moves (moves_on (mark_moves c.in_ok-value.ensures.found) c.in_ok-body.ensures.moves))) in
    rw (e, f, s) (definition_read c.in_ok-name.ensures.found c.in_ok-con_params.con_params.end c.in_ok-con_params.ensures.found c.in_ok-params.params.end c.in_ok-params.ensures.found c.in_ok-colon.ensures.found
    c.in_ok-con.con.end c.in_ok-con.ensures.found c.in_ok-value.ensures.found m c.in_ok-body.ensures.found)
