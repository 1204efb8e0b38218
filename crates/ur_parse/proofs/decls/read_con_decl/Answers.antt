use Rattle.std.proofs.Common.{arith}
use Rattle.ur_parse_rules.specs.Places.{Moves}
use Rattle.ur_parse_rules.proofs.Steps.{passed}
use Rattle.ur_parse.proofs.Declaring.{con_name, con_colons, con_kind, con_equals, con_value, con_read}
use Rattle.ur_parse.proofs.decls.read_con_decl.Goals as goal

pub returns-in_err-name-clause-refused : goal.returns-in_err-name-clause-refused
returns-in_err-name-clause-refused c = passed _ _ c.from_residual.ensures.1 c.in_err-name.ensures.refused (λ r h. con_name c.requires h)

pub returns-in_err-begin-clause-refused : goal.returns-in_err-begin-clause-refused
returns-in_err-begin-clause-refused c = passed _ _ c.from_residual-in_err-begin.ensures.1 c.in_err-begin.ensures.refused (λ r h. con_colons c.requires c.in_ok-name.ensures.found h)

pub returns-in_err-of-clause-refused : goal.returns-in_err-of-clause-refused
returns-in_err-of-clause-refused c = passed _ _ c.from_residual-in_err-of.ensures.1 c.in_err-of.ensures.refused (λ r h. con_kind c.requires c.in_ok-name.ensures.found c.in_ok-begin.ensures.found (h _))

pub returns-in_err-value-clause-refused : goal.returns-in_err-value-clause-refused
returns-in_err-value-clause-refused c = passed _ _ c.from_residual-in_err-value.ensures.1 c.in_err-value.ensures.refused (λ r h. con_equals c.requires c.in_ok-name.ensures.found c.in_ok-begin.ensures.found c.in_ok-of.of.end (c.in_ok-of.ensures.found _) h)

pub returns-in_err-con-clause-refused : goal.returns-in_err-con-clause-refused
returns-in_err-con-clause-refused c = passed _ _ c.from_residual-in_err-con.ensures.1 c.in_err-con.ensures.refused (λ r h. con_value c.requires c.in_ok-name.ensures.found c.in_ok-begin.ensures.found c.in_ok-of.of.end (c.in_ok-of.ensures.found _) c.in_ok-value.ensures.found h)

pub returns-clause-found : goal.returns-clause-found
returns-clause-found c = let e = c.declared.ensures.tree in let f = c.declared.ensures.end in let s = c.span-covered.ensures in
    let m : Moves c.args.tokens.now c.args.at c.in_ok-con.con.end = (let x = c.in_ok-con.ensures.moves.on in let y = c.in_ok-value.ensures.found.next in let z = c.in_ok-of.ensures.moves.on in let u = c.in_ok-begin.ensures.found.next in let v = c.in_ok-name.ensures.found.next in
    record { on = omega (arith, x, y, z, u, v); within = c.in_ok-con.ensures.moves.within }) in
    rw (e, f, s) (con_read c.requires c.in_ok-name.ensures.found c.in_ok-begin.ensures.found c.in_ok-of.of.end (c.in_ok-of.ensures.found _) c.in_ok-value.ensures.found m c.in_ok-con.ensures.found)
