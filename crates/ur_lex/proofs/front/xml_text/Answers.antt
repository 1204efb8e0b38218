use Rattle.ur_lex.proofs.Quotes.{text_front, no_text}
use Rattle.std.proofs.Common.{arith}
use Rattle.ur_lex.proofs.front.xml_text.Goals as goal

pub returns-then-len-eq0 : goal.returns-then-len-eq0
returns-then-len-eq0 c = no_text c.args.bytes.now c.in_ok-content.field-0.content c.in_ok-content.field-0.len c.requires.some c.requires.start c.in_ok-content.ensures c.if-len-eq0.true

pub returns : goal.returns
returns c = text_front c.args.bytes.now c.in_ok-content.field-0.content c.in_ok-content.field-0.len c.requires.some c.requires.start c.in_ok-content.ensures (omega arith)
