use Rattle.ur_parse_embed.proofs.Ending.{word_goes_on, word_skipped}
use Rattle.ur_parse_embed.proofs.ends.word_or.Goals as goal

pub returns-then-sees_word : goal.returns-then-sees_word
returns-then-sees_word c = λ cs e. word_goes_on cs (c.sees_word.ensures.yes c.if-sees_word.true)

pub returns-else-sees_word : goal.returns-else-sees_word
returns-else-sees_word c = λ cs e. word_skipped cs _ (c.sees_word.ensures.no c.if-sees_word.false) e
