use Rattle.std.proofs.Common.{refl, sym, ◌∙◌}
use Rattle.ur_parse_embed_code.proofs.Codes.{starts_code}
use Rattle.ur_parse_embed_code.proofs.code.goes_on.Goals as goal

pub returns-in-Some : goal.returns-in-Some
returns-in-Some c = c.is_code.ensures ∙ sym (starts_code c.args.tokens.now c.args.at c.in-Some.kind c.in-Some.ensures)

pub returns-in-None : goal.returns-in-None
returns-in-None c = let s = c.in-None.ensures in rw s refl
