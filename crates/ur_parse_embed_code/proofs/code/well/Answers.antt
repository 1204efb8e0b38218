use Rattle.ur_parse_embed_code.proofs.Codes.{well_pair}
use Rattle.ur_parse_embed_code.proofs.code.well.Goals as goal

pub returns-then-begin-end : goal.returns-then-begin-end
returns-then-begin-end c = well_pair c.args.tokens.now c.args.begin c.args.end c.requires c.if-begin-end.true (c.sees.ensures.yes c.if-sees.true) _ c.sees-then-begin-end.ensures.yes c.sees-then-begin-end.ensures.no
