use Rattle.ur_parse_con.proofs.Signs.{sign_seen, no_sign}
use Rattle.ur_parse_con.proofs.operator.sign_at.Goals as goal

pub returns-in-Some : goal.returns-in-Some
returns-in-Some c = let e = c.sign_of.ensures in let s = c.in-Some.ensures in rw e (sign_seen c.args.tokens.now c.args.at c.args.level c.in-Some.kind s.0 s.1 s.2)

pub returns-in-None : goal.returns-in-None
returns-in-None c = no_sign c.args.tokens.now c.args.at c.args.level c.in-None.ensures
