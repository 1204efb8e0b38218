use Rattle.ur_check_rules.proofs.Sided.{return-made}
use Rattle.ur_check_rules.proofs.sides.return_out.Goals as goal

pub returns : goal.returns
returns c = return-made c.args.out (record { of = c.in_ok-of.of; exp = c.in_ok-exp.exp }) c.in_ok-of.ensures c.in_ok-exp.ensures
