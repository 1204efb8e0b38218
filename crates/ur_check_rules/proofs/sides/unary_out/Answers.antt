use Rattle.std.proofs.Common.{refl}
use Rattle.ur_check_rules.proofs.Sided.{one-made}
use Rattle.ur_check_rules.proofs.sides.unary_out.Goals as goal

pub returns : goal.returns
returns c = one-made c.args.op c.args.of c.args.out (record { of = c.args.of; exp = c.in_ok-exp.exp }) refl c.in_ok-exp.ensures
