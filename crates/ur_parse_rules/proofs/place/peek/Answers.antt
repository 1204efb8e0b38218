use Rattle.std.proofs.Common.{arith}
use Rattle.ur_parse_rules.proofs.Tokens.{sees}
use Rattle.ur_parse_rules.proofs.place.peek.Goals as goal

pub returns-then-at-len : goal.returns-then-at-len
returns-then-at-len c = sees c.args.tokens.now c.args.at _ _ (omega arith) (omega arith) c.get.ensures
