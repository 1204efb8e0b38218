use Rattle.std.proofs.Common.{arith}
use Rattle.ur_parse_rules.proofs.Steps.{passed}
use Rattle.ur_parse_exp_parts.proofs.ParseExpFormsNaming.{get_refused, get_dotted, get_read}
use Rattle.ur_parse_exp_parts.proofs.state.read_get_cookie.Goals as goal

pub returns-in_err-name-clause-refused : goal.returns-in_err-name-clause-refused
returns-in_err-name-clause-refused c = passed _ _ c.from_residual.ensures.1 c.in_err-name.ensures.refused (λ r h n. get_refused n c.requires (h n))

pub returns-in_err-absent-clause-refused : goal.returns-in_err-absent-clause-refused
returns-in_err-absent-clause-refused c = passed _ _ c.from_residual-in_err-absent.ensures.1 c.in_err-absent.ensures.refused (λ r h n. get_dotted n c.in_ok-name.end c.requires (c.in_ok-name.ensures.found n) h.says h.is)

pub returns-clause-found : goal.returns-clause-found
returns-clause-found c = λ n. let e0 = c.in_ok-made.ensures.found.0 in let e1 = c.in_ok-made.ensures.found.1 in let s = c.span-covered.ensures in let o = c.in_ok-name.ensures.moves in let a = o.on in
    rw (e0, e1, s) (get_read n c.in_ok-name.end c.requires (record { on = omega (arith, a); within = o.within }) c.in_ok-absent.ensures.found (c.in_ok-name.ensures.found n))
