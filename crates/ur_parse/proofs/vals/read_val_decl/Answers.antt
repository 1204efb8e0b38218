use Rattle.std.proofs.Common.{arith}
use Rattle.ur_parse_rules.specs.Places.{Moves}
use Rattle.ur_parse_rules.proofs.Steps.{passed}
use Rattle.ur_parse.proofs.Items.{val_missing, val_name, val_colon, val_con, val_read}
use Rattle.ur_parse.proofs.vals.read_val_decl.Goals as goal

pub returns-in_err-name_at-clause-refused : goal.returns-in_err-name_at-clause-refused
returns-in_err-name_at-clause-refused c = passed _ _ c.from_residual.ensures.1 c.in_err-name_at.ensures.refused (λ r h. val_missing h)

pub returns-in_err-name-clause-refused : goal.returns-in_err-name-clause-refused
returns-in_err-name-clause-refused c = passed _ _ c.from_residual-in_err-name.ensures.1 c.in_err-name.ensures.refused (λ r h. val_name c.in_ok-name_at.ensures.found h)

pub returns-in_err-begin-clause-refused : goal.returns-in_err-begin-clause-refused
returns-in_err-begin-clause-refused c = passed _ _ c.from_residual-in_err-begin.ensures.1 c.in_err-begin.ensures.refused (λ r h. val_colon c.in_ok-name_at.ensures.found c.in_ok-name.ensures.found h)

pub returns-in_err-con-clause-refused : goal.returns-in_err-con-clause-refused
returns-in_err-con-clause-refused c = passed _ _ c.from_residual-in_err-con.ensures.1 c.in_err-con.ensures.refused (λ r h. val_con c.in_ok-name_at.ensures.found c.in_ok-name.ensures.found c.in_ok-begin.ensures.found h)

pub returns-clause-found : goal.returns-clause-found
returns-clause-found c = let e = c.val_of.ensures.tree in let f = c.val_of.ensures.end in let s = c.span-covered.ensures in
    let m : Moves c.args.tokens.now c.args.at c.in_ok-con.con.end = (let x = c.in_ok-con.ensures.moves.on in let y = c.in_ok-begin.ensures.found.next in let z = c.in_ok-name.ensures.found.next in let v = c.in_ok-name_at.ensures.found.next in
    record { on = omega (arith, x, y, z, v); within = c.in_ok-con.ensures.moves.within }) in
    rw (e, f, s) (val_read m c.in_ok-name_at.ensures.found c.in_ok-name.ensures.found c.in_ok-begin.ensures.found c.in_ok-con.ensures.found)
