use Rattle.ur_parse_rules.proofs.Steps.{passed}
use Rattle.ur_parse_rules.proofs.Places.{mark_moves, name_moves, moves_on}
use Rattle.ur_parse.proofs.Values.{val_name, val_colon, val_con, val_equals, val_exp, val_read}
use Rattle.ur_parse.proofs.value.read_val.Goals as goal

pub returns-in_err-name-clause-refused : goal.returns-in_err-name-clause-refused
returns-in_err-name-clause-refused c = passed _ _ c.from_residual.ensures.1 c.in_err-name.ensures.refused (λ r h. val_name c.requires h)

pub returns-in_err-begin-clause-refused : goal.returns-in_err-begin-clause-refused
returns-in_err-begin-clause-refused c = passed _ _ c.from_residual-in_err-begin.ensures.1 c.in_err-begin.ensures.refused (λ r h. val_colon c.requires c.in_ok-name.ensures.found h)

pub returns-in_err-con-clause-refused : goal.returns-in_err-con-clause-refused
returns-in_err-con-clause-refused c = passed _ _ c.from_residual-in_err-con.ensures.1 c.in_err-con.ensures.refused (λ r h. val_con c.requires c.in_ok-name.ensures.found c.in_ok-begin.ensures.found h)

pub returns-in_err-value-clause-refused : goal.returns-in_err-value-clause-refused
returns-in_err-value-clause-refused c = passed _ _ c.from_residual-in_err-value.ensures.1 c.in_err-value.ensures.refused
    (λ r h. val_equals c.requires c.in_ok-name.ensures.found c.in_ok-begin.ensures.found c.in_ok-con.con.end c.in_ok-con.ensures.found h)

pub returns-in_err-exp-clause-refused : goal.returns-in_err-exp-clause-refused
returns-in_err-exp-clause-refused c = passed _ _ c.from_residual-in_err-exp.ensures.1 c.in_err-exp.ensures.refused
    (λ r h. val_exp c.requires c.in_ok-name.ensures.found c.in_ok-begin.ensures.found c.in_ok-con.con.end c.in_ok-con.ensures.found c.in_ok-value.ensures.found h)

pub returns-clause-moves : goal.returns-clause-moves
returns-clause-moves c = let f = c.val_of.ensures.end in
    rw f (moves_on (mark_moves c.requires) (moves_on (name_moves c.in_ok-name.ensures.found) (moves_on (mark_moves c.in_ok-begin.ensures.found) (moves_on c.in_ok-con.ensures.moves (moves_on (mark_moves c.in_ok-value.ensures.found) c.in_ok-exp.ensures.moves)))))

pub returns-clause-found : goal.returns-clause-found
returns-clause-found c = let e = c.val_of.ensures.tree in let f = c.val_of.ensures.end in let s = c.span-covered.ensures in
    rw (e, f, s) (val_read c.requires c.in_ok-name.ensures.found c.in_ok-begin.ensures.found c.in_ok-con.con.end c.in_ok-con.ensures.found c.in_ok-value.ensures.found
    (moves_on (mark_moves c.requires) (moves_on (name_moves c.in_ok-name.ensures.found) (moves_on (mark_moves c.in_ok-begin.ensures.found) (moves_on c.in_ok-con.ensures.moves (moves_on (mark_moves c.in_ok-value.ensures.found) c.in_ok-exp.ensures.moves)))))
    c.in_ok-exp.ensures.found)
