use Rattle.ur_parse_rules.proofs.Numbers.{seen, seen_nothing}
use Rattle.ur_parse_rules.proofs.number.number_at.Goals as goal

pub returns-in-Some : goal.returns-in-Some
returns-in-Some c = let e = c.int_of.ensures in let s = c.in-Some.ensures in rw e (seen c.args.tokens.now c.args.at c.in-Some.kind s.0 s.1 s.2)

pub returns-in-None : goal.returns-in-None
returns-in-None c = seen_nothing c.args.tokens.now c.args.at c.in-None.ensures
