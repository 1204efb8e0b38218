use Rattle.ur_parse_rules.proofs.Steps.{passed}
use Rattle.ur_parse_rules.proofs.Places.{mark_moves, moves_on}
use Rattle.ur_parse_con.proofs.ParsePartsParams.{no_param, unit_read, binder_refused, colon_refused, con_refused, close_refused, typed_read}
use Rattle.ur_parse_con.proofs.parse_parts_param.read_param.Goals as goal

pub returns-in_err-begin-clause-refused : goal.returns-in_err-begin-clause-refused
returns-in_err-begin-clause-refused c = passed _ _ c.from_residual.ensures.1 c.in_err-begin.ensures.refused (λ r h. no_param c.args.tokens.now c.args.at h)

pub returns-then-sees-clause-moves : goal.returns-then-sees-clause-moves
returns-then-sees-clause-moves c = moves_on (mark_moves c.in_ok-begin.ensures.found) (mark_moves (c.sees.ensures.yes c.if-sees.true))

pub returns-then-sees-clause-found : goal.returns-then-sees-clause-found
returns-then-sees-clause-found c = unit_read c.args.tokens.now c.args.at c.in_ok-begin.ensures.found (c.sees.ensures.yes c.if-sees.true)

pub returns-in_err-binder-clause-refused : goal.returns-in_err-binder-clause-refused
returns-in_err-binder-clause-refused c = passed _ _ c.from_residual-in_err-binder.ensures.1 c.in_err-binder.ensures.refused (λ r h. binder_refused c.args.tokens.now c.args.at c.in_ok-begin.ensures.found (c.sees.ensures.no c.if-sees.false) (h _))

pub returns-in_err-from-clause-refused : goal.returns-in_err-from-clause-refused
returns-in_err-from-clause-refused c = passed _ _ c.from_residual-in_err-from.ensures.1 c.in_err-from.ensures.refused (λ r h. colon_refused c.args.tokens.now c.args.at c.in_ok-begin.ensures.found (c.sees.ensures.no c.if-sees.false) (c.in_ok-binder.ensures.found _) h)

pub returns-in_err-con-clause-refused : goal.returns-in_err-con-clause-refused
returns-in_err-con-clause-refused c = passed _ _ c.from_residual-in_err-con.ensures.1 c.in_err-con.ensures.refused (λ r h. con_refused c.args.tokens.now c.args.at c.in_ok-begin.ensures.found (c.sees.ensures.no c.if-sees.false) (c.in_ok-binder.ensures.found _) c.in_ok-from.ensures.found h)

pub returns-in_err-end-clause-refused : goal.returns-in_err-end-clause-refused
returns-in_err-end-clause-refused c = passed _ _ c.from_residual-in_err-end.ensures.1 c.in_err-end.ensures.refused (λ r h. close_refused c.args.tokens.now c.args.at c.in_ok-begin.ensures.found (c.sees.ensures.no c.if-sees.false) (c.in_ok-binder.ensures.found _) c.in_ok-from.ensures.found _ c.in_ok-con.ensures.found h)

pub returns-clause-moves : goal.returns-clause-moves
returns-clause-moves c = let e = c.typed.ensures.end in rw e (moves_on (mark_moves c.in_ok-begin.ensures.found) (moves_on c.in_ok-binder.ensures.moves (moves_on (mark_moves c.in_ok-from.ensures.found) (moves_on c.in_ok-con.ensures.moves (mark_moves c.in_ok-end.ensures.found)))))

pub returns-clause-found : goal.returns-clause-found
returns-clause-found c = let e = c.typed.ensures.tree in let f = c.typed.ensures.end in
    rw (e, f) (typed_read c.args.tokens.now c.args.at c.in_ok-begin.ensures.found (c.sees.ensures.no c.if-sees.false) (c.in_ok-binder.ensures.found _) c.in_ok-from.ensures.found _ c.in_ok-con.ensures.found c.in_ok-end.ensures.found)
