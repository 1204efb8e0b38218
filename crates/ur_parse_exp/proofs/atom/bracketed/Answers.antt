use Rattle.ur_parse_rules.proofs.Steps.{passed}
use Rattle.ur_parse_rules.proofs.Places.{mark_moves, moves_on}
use Rattle.ur_parse_exp.proofs.Posts.{arg_nil_refused, arg_nil_read, arg_con_refused, arg_con_open, arg_con_dotted, arg_con_read}
use Rattle.ur_parse_exp.proofs.atom.bracketed.Goals as goal

pub returns-in_err-made-clause-refused : goal.returns-in_err-made-clause-refused
returns-in_err-made-clause-refused c = passed _ _ c.from_residual.ensures.1 c.in_err-made.ensures.refused (λ r h. arg_nil_refused c.args.depth c.requires (c.sees.ensures.yes c.if-sees.true) (h _))

pub returns-in_ok-made-clause-found : goal.returns-in_ok-made-clause-found
returns-in_ok-made-clause-found c = let e = c.as_value.ensures.tree in let f = c.as_value.ensures.end in rw (e, f) (arg_nil_read c.args.depth c.requires (c.sees.ensures.yes c.if-sees.true) c.in_ok-made.ensures.moves c.in_ok-made.ensures.found)

pub returns-in_err-con-clause-refused : goal.returns-in_err-con-clause-refused
returns-in_err-con-clause-refused c = passed _ _ c.from_residual-in_err-con.ensures.1 c.in_err-con.ensures.refused (λ r h. arg_con_refused c.args.depth c.requires (c.sees.ensures.no c.if-sees.false) h)

pub returns-in_err-end-clause-refused : goal.returns-in_err-end-clause-refused
returns-in_err-end-clause-refused c = passed _ _ c.from_residual-in_err-end.ensures.1 c.in_err-end.ensures.refused (λ r h. arg_con_open c.args.depth c.requires (c.sees.ensures.no c.if-sees.false) c.in_ok-con.con.end c.in_ok-con.ensures.found h)

pub returns-in_err-absent-clause-refused : goal.returns-in_err-absent-clause-refused
returns-in_err-absent-clause-refused c = passed _ _ c.from_residual-in_err-absent.ensures.1 c.in_err-absent.ensures.refused (λ r h. arg_con_dotted c.args.depth c.in_ok-con.con.end c.in_ok-end.end (c.sees.ensures.no c.if-sees.false) c.requires c.in_ok-con.ensures.found c.in_ok-end.ensures.found h.is h.says)

pub returns-in_ok-absent-clause-found : goal.returns-in_ok-absent-clause-found
returns-in_ok-absent-clause-found c = let e = c.as_type.ensures.tree in let f = c.as_type.ensures.end in
    rw (e, f) (arg_con_read c.args.depth c.in_ok-con.con.end (moves_on (mark_moves c.requires) (moves_on c.in_ok-con.ensures.moves (mark_moves c.in_ok-end.ensures.found))) c.requires c.in_ok-con.ensures.found c.in_ok-end.ensures.found c.in_ok-absent.ensures.found)
