use Rattle.std.proofs.Common.{arith}
use Rattle.ur_parse_rules.specs.Places.{Moves}
use Rattle.ur_parse_rules.proofs.Steps.{passed}
use Rattle.ur_parse.proofs.Declaring.{type_name, type_mark, type_con, type_read}
use Rattle.ur_parse.proofs.decls.read_type_decl.Goals as goal

pub returns-in_err-name-clause-refused : goal.returns-in_err-name-clause-refused
returns-in_err-name-clause-refused c = passed _ _ c.from_residual.ensures.1 c.in_err-name.ensures.refused (λ r h. type_name c.requires h)

pub returns-in_err-begin-clause-refused : goal.returns-in_err-begin-clause-refused
returns-in_err-begin-clause-refused c = passed _ _ c.from_residual-in_err-begin.ensures.1 c.in_err-begin.ensures.refused (λ r h. type_mark c.requires c.in_ok-name.ensures.found h)

pub returns-in_err-con-clause-refused : goal.returns-in_err-con-clause-refused
returns-in_err-con-clause-refused c = passed _ _ c.from_residual-in_err-con.ensures.1 c.in_err-con.ensures.refused (λ r h. type_con c.requires c.in_ok-name.ensures.found c.in_ok-begin.ensures.found h)

pub returns-clause-found : goal.returns-clause-found
returns-clause-found c = let e = c.declared.ensures.tree in let f = c.declared.ensures.end in let s = c.span-covered.ensures in
    let m : Moves c.args.tokens.now c.args.at c.in_ok-con.con.end = (let x = c.in_ok-con.ensures.moves.on in let y = c.in_ok-begin.ensures.found.next in let z = c.in_ok-name.ensures.found.next in
    record { on = omega (arith, x, y, z); within = c.in_ok-con.ensures.moves.within }) in
    rw (e, f, s) (type_read c.requires c.in_ok-name.ensures.found c.in_ok-begin.ensures.found m c.in_ok-con.ensures.found)
