use Rattle.std.proofs.Common.{refl}
use Rattle.ur_parse_embed_code.specs.Quotes.{raw_of}
use Rattle.ur_parse_embed_code.proofs.Numbering.{numbered_exp}
use Rattle.ur_parse_embed_code.proofs.code.antiquote.Goals as goal

pub returns-clause-found : goal.returns-clause-found
returns-clause-found c = let r = c.in_ok-range.ensures in let p = c.in_ok-number.ensures in record {
  code = raw_of c.args.tokens.now c.args.at c.in_ok-range.range.end;
  read = r.found;
  made = numbered_exp c.args.tokens.now c.args.depth c.args.at c.in_ok-range.range.end c.in_ok-range.range c.args.quotes.now c.push_exp.new.self c.in_ok-number.number r.begin refl r.depth p.number p.exps p.attributes;
}
