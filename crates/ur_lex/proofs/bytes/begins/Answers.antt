use Rattle.std.proofs.Common.{◌∙◌}
use Rattle.ur_lex.proofs.Texts.{front_is}
use Rattle.ur_lex.proofs.bytes.begins.Goals as goal

pub returns : goal.returns
returns c = c.starts_with.ensures.value ∙ front_is c.args.front.now c.args.bytes.now
