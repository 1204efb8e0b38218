use Rattle.ur_parse_con.proofs.Signs.{comparison_seen, no_comparison}
use Rattle.ur_parse_con.proofs.operator.comparison_at.Goals as goal

pub returns-in-Some : goal.returns-in-Some
returns-in-Some c = let e = c.comparison_of.ensures in let s = c.in-Some.ensures in rw e (comparison_seen c.args.tokens.now c.args.at c.in-Some.kind s.0 s.1 s.2)

pub returns-in-None : goal.returns-in-None
returns-in-None c = no_comparison c.args.tokens.now c.args.at c.in-None.ensures
