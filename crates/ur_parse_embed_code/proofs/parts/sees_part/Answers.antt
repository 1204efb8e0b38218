use Rattle.std.proofs.Common.{sym}
use Rattle.ur_parse_embed_code.proofs.Elements.{text_begins, brace_begins, tag_begins, none_begins}
use Rattle.ur_parse_embed_code.proofs.parts.sees_part.Goals as goal

pub returns-then-sees : goal.returns-then-sees
returns-then-sees c = sym (text_begins (c.sees.ensures.yes c.if-sees.true))

pub returns-then-sees-2 : goal.returns-then-sees-2
returns-then-sees-2 c = sym (brace_begins (c.sees-else-sees.ensures.yes c.if-sees-2.true))

pub returns-then-sees-3 : goal.returns-then-sees-3
returns-then-sees-3 c = sym (tag_begins (c.sees-else-sees-2.ensures.yes c.if-sees-3.true))

pub returns-else-sees-3 : goal.returns-else-sees-3
returns-else-sees-3 c = sym (none_begins c.args.tokens.now c.args.at (c.sees.ensures.no c.if-sees.false) (c.sees-else-sees.ensures.no c.if-sees-2.false) (c.sees-else-sees-2.ensures.no c.if-sees-3.false))
