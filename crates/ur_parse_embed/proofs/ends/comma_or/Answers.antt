use Rattle.ur_parse_embed.proofs.Ending.{comma_goes_on, comma_skipped}
use Rattle.ur_parse_embed.proofs.ends.comma_or.Goals as goal

pub returns-then-sees : goal.returns-then-sees
returns-then-sees c = λ cs e. comma_goes_on cs (c.sees.ensures.yes c.if-sees.true)

pub returns-else-sees : goal.returns-else-sees
returns-else-sees c = λ cs e. comma_skipped cs _ (c.sees.ensures.no c.if-sees.false) e
