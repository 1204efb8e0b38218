use Rattle.ur_parse_embed_code.proofs.Elements.{bracket_pair, bracket_alone, no_bracket}
use Rattle.ur_parse_embed_code.proofs.parts.sees_shown.Goals as goal

pub returns-then-sees-2 : goal.returns-then-sees-2
returns-then-sees-2 c = bracket_pair (c.sees.ensures.yes c.if-sees.true) (c.sees-then-sees.ensures.yes c.if-sees-2.true)

pub returns-else-sees-2 : goal.returns-else-sees-2
returns-else-sees-2 c = bracket_alone (c.sees.ensures.yes c.if-sees.true) (c.sees-then-sees.ensures.no c.if-sees-2.false)

pub returns-else-sees : goal.returns-else-sees
returns-else-sees c = no_bracket (c.sees.ensures.no c.if-sees.false)
