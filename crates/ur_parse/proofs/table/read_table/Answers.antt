use Rattle.ur_parse_rules.proofs.Steps.{passed}
use Rattle.ur_parse_rules.proofs.Places.{mark_moves, name_moves, moves_on}
use Rattle.ur_parse_con.proofs.Binders.{stays_on}
use Rattle.ur_parse.proofs.Tables.{table_name, table_mark, table_con, table_keys, table_read}
use Rattle.ur_parse.proofs.table.read_table.Goals as goal

pub returns-in_err-name-clause-refused : goal.returns-in_err-name-clause-refused
returns-in_err-name-clause-refused c = passed _ _ c.from_residual.ensures.1 c.in_err-name.ensures.refused (λ r h. table_name c.requires h)

pub returns-in_err-begin-clause-refused : goal.returns-in_err-begin-clause-refused
returns-in_err-begin-clause-refused c = passed _ _ c.from_residual-in_err-begin.ensures.1 c.in_err-begin.ensures.refused (λ r h. table_mark c.requires c.in_ok-name.ensures.found h)

pub returns-in_err-con-clause-refused : goal.returns-in_err-con-clause-refused
returns-in_err-con-clause-refused c = passed _ _ c.from_residual-in_err-con.ensures.1 c.in_err-con.ensures.refused (λ r h. table_con c.requires c.in_ok-name.ensures.found c.in_ok-begin.ensures.found h)

pub returns-in_err-keys-clause-refused : goal.returns-in_err-keys-clause-refused
returns-in_err-keys-clause-refused c = passed _ _ c.from_residual-in_err-keys.ensures.1 c.in_err-keys.ensures.refused (λ r h. table_keys c.requires c.in_ok-name.ensures.found c.in_ok-begin.ensures.found c.in_ok-con.con.end c.in_ok-con.ensures.found (h _))

pub returns-clause-moves : goal.returns-clause-moves
returns-clause-moves c = let f = c.table_of.ensures.end in
    rw f (stays_on (moves_on (mark_moves c.requires) (moves_on (name_moves c.in_ok-name.ensures.found) (moves_on (mark_moves c.in_ok-begin.ensures.found) c.in_ok-con.ensures.moves))) c.in_ok-keys.ensures.stays)

pub returns-clause-found : goal.returns-clause-found
returns-clause-found c = let e = c.table_of.ensures.tree in let f = c.table_of.ensures.end in let s = c.span-covered.ensures in
    rw (e, f, s) (table_read c.requires c.in_ok-name.ensures.found c.in_ok-begin.ensures.found c.in_ok-con.con.end c.in_ok-con.ensures.found
    (stays_on (moves_on (mark_moves c.requires) (moves_on (name_moves c.in_ok-name.ensures.found) (moves_on (mark_moves c.in_ok-begin.ensures.found) c.in_ok-con.ensures.moves))) c.in_ok-keys.ensures.stays)
    (c.in_ok-keys.ensures.found _))
