use Rattle.ur_check_rules.proofs.Sided.{some-made}
use Rattle.ur_check_rules.proofs.sides.some_out.Goals as goal

pub returns : goal.returns
returns c = some-made c.args.out (record { of = c.in_ok-of.of; exp = c.in_ok-exp.exp }) c.in_ok-of.ensures c.in_ok-exp.ensures
