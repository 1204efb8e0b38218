use Rattle.ur_parse_rules.proofs.Steps.{passed}
use Rattle.ur_parse_con.proofs.Params.{kinded_chosen, plain_chosen, param_missing, kinded_refused, kinded_open, kinded_read, left_refused, tilde_missing, right_refused, disjoint_open, disjoint_read}
use Rattle.ur_parse_con.proofs.param.con_param.Goals as goal

pub returns-in_err-inner-clause-refused : goal.returns-in_err-inner-clause-refused
returns-in_err-inner-clause-refused c = passed _ _ c.from_residual.ensures.1 c.in_err-inner.ensures.refused
    (λ r h. param_missing h)

pub returns-in_err-of-clause-refused : goal.returns-in_err-of-clause-refused
returns-in_err-of-clause-refused c = let y = c.sees_kinded.ensures.yes c.if-sees_kinded.true in passed _ _ c.from_residual-in_err-of.ensures.1 c.in_err-of.ensures.refused
    (λ r h. kinded_refused c.in_ok-inner.ensures.found (kinded_chosen c.in_ok-inner.ensures.found y.0 y.1) c.in_ok-name.ensures.found c.in_ok-begin.ensures.found (h _))

pub returns-in_err-end-clause-refused : goal.returns-in_err-end-clause-refused
returns-in_err-end-clause-refused c = let y = c.sees_kinded.ensures.yes c.if-sees_kinded.true in passed _ _ c.from_residual-in_err-end.ensures.1 c.in_err-end.ensures.refused
    (λ r h. kinded_open c.in_ok-inner.ensures.found (kinded_chosen c.in_ok-inner.ensures.found y.0 y.1) c.in_ok-name.ensures.found c.in_ok-begin.ensures.found c.in_ok-of.of.end (c.in_ok-of.ensures.found _) h)

pub returns-in_ok-end-clause-found : goal.returns-in_ok-end-clause-found
returns-in_ok-end-clause-found c = let y = c.sees_kinded.ensures.yes c.if-sees_kinded.true in let e = c.kinded.ensures.tree in let f = c.kinded.ensures.end in
    rw (e, f) (kinded_read c.in_ok-inner.ensures.found (kinded_chosen c.in_ok-inner.ensures.found y.0 y.1) c.in_ok-name.ensures.found c.in_ok-begin.ensures.found c.in_ok-of.of.end (c.in_ok-of.ensures.found _) c.in_ok-end.ensures.found)

pub returns-in_err-left-clause-refused : goal.returns-in_err-left-clause-refused
returns-in_err-left-clause-refused c = let o = c.sees_kinded.ensures.no c.if-sees_kinded.false in passed _ _ c.from_residual-in_err-left.ensures.1 c.in_err-left.ensures.refused
    (λ r h. left_refused c.in_ok-inner.ensures.found (plain_chosen c.in_ok-inner.ensures.found o) h)

pub returns-in_err-begin-2-clause-refused : goal.returns-in_err-begin-2-clause-refused
returns-in_err-begin-2-clause-refused c = let o = c.sees_kinded.ensures.no c.if-sees_kinded.false in passed _ _ c.from_residual-in_err-begin-2.ensures.1 c.in_err-begin-2.ensures.refused
    (λ r h. tilde_missing c.in_ok-inner.ensures.found (plain_chosen c.in_ok-inner.ensures.found o) c.in_ok-left.left.end c.in_ok-left.ensures.found h)

pub returns-in_err-right-clause-refused : goal.returns-in_err-right-clause-refused
returns-in_err-right-clause-refused c = let o = c.sees_kinded.ensures.no c.if-sees_kinded.false in passed _ _ c.from_residual-in_err-right.ensures.1 c.in_err-right.ensures.refused
    (λ r h. right_refused c.in_ok-inner.ensures.found (plain_chosen c.in_ok-inner.ensures.found o) c.in_ok-left.left.end c.in_ok-left.ensures.found c.in_ok-begin-2.ensures.found h)

pub returns-in_err-end-2-clause-refused : goal.returns-in_err-end-2-clause-refused
returns-in_err-end-2-clause-refused c = let o = c.sees_kinded.ensures.no c.if-sees_kinded.false in passed _ _ c.from_residual-in_err-end-2.ensures.1 c.in_err-end-2.ensures.refused
    (λ r h. disjoint_open c.in_ok-inner.ensures.found (plain_chosen c.in_ok-inner.ensures.found o) c.in_ok-left.left.end c.in_ok-left.ensures.found c.in_ok-begin-2.ensures.found c.in_ok-right.right.end c.in_ok-right.ensures.found h)

pub returns-in_ok-end-2-clause-found : goal.returns-in_ok-end-2-clause-found
returns-in_ok-end-2-clause-found c = let o = c.sees_kinded.ensures.no c.if-sees_kinded.false in let e = c.disjoint.ensures.tree in let f = c.disjoint.ensures.end in
    rw (e, f) (disjoint_read c.in_ok-inner.ensures.found (plain_chosen c.in_ok-inner.ensures.found o) c.in_ok-left.left.end c.in_ok-left.ensures.found c.in_ok-begin-2.ensures.found c.in_ok-right.right.end c.in_ok-right.ensures.found c.in_ok-end-2.ensures.found)
