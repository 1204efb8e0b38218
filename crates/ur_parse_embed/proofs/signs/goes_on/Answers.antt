use Rattle.ur_parse_embed.proofs.Comparing.{sign_goes_on, is_goes_on, sum_alone}
use Rattle.ur_parse_embed.proofs.signs.goes_on.Goals as goal

pub returns-in-Some : goal.returns-in-Some
returns-in-Some c = sign_goes_on c.args.bare c.args.tokens.now c.args.at _ c.in-Some.ensures

pub returns-then-sees_word : goal.returns-then-sees_word
returns-then-sees_word c = is_goes_on c.args.bare (c.sees_word.ensures.yes c.if-sees_word.true)

pub returns-else-sees_word : goal.returns-else-sees_word
returns-else-sees_word c = sum_alone c.args.bare _ c.in-None.ensures (c.sees_word.ensures.no c.if-sees_word.false) c.sum_goes_on.ensures
