use Rattle.std.proofs.Common.{arith}
use Rattle.ur_parse_rules.proofs.Tokens.{span_is}
use Rattle.ur_parse_rules.proofs.place.span.Goals as goal

pub returns : goal.returns
returns c = let m = c.requires.on in let w = c.requires.within in span_is c.args.tokens.now c.args.from c.args.to _ _ _ _ (omega (arith, m, w)) (omega (arith, m, w)) c.get.ensures c.get-2.ensures
