use Rattle.std.proofs.Common.{sym}
use Rattle.ur_lex.specs.Spelling.{all_keywords}
use Rattle.ur_lex.proofs.Symbols.{keyword_among}
use Rattle.ur_lex.proofs.spelling.keyword.Goals as goal

pub returns : goal.returns
returns c = keyword_among all_keywords c.args.word.now _ (sym c.listed.ensures)
