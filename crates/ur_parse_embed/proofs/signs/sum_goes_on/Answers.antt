use Rattle.ur_parse_embed.proofs.Comparing.{plus_goes_on, minus_goes_on, star_goes_on, bare_goes_on, bare_ends, sum_stops}
use Rattle.ur_parse_embed.proofs.signs.sum_goes_on.Goals as goal

pub returns-then-sees : goal.returns-then-sees
returns-then-sees c = plus_goes_on c.args.bare (c.sees.ensures.yes c.if-sees.true)

pub returns-then-sees-2 : goal.returns-then-sees-2
returns-then-sees-2 c = minus_goes_on c.args.bare (c.sees-else-sees.ensures.yes c.if-sees-2.true)

pub returns-then-sees-3 : goal.returns-then-sees-3
returns-then-sees-3 c = star_goes_on c.args.bare (c.sees-else-sees-2.ensures.yes c.if-sees-3.true)

pub returns-then-sees-4 : goal.returns-then-sees-4
returns-then-sees-4 c = bare_goes_on c.args.bare c.if-bare.true (c.sees-then-bare.ensures.yes c.if-sees-4.true)

pub returns-else-sees-4 : goal.returns-else-sees-4
returns-else-sees-4 c = bare_ends c.args.bare c.if-bare.true (c.sees.ensures.no c.if-sees.false) (c.sees-else-sees.ensures.no c.if-sees-2.false) (c.sees-else-sees-2.ensures.no c.if-sees-3.false) (c.sees-then-bare.ensures.no c.if-sees-4.false)

pub returns-else-bare : goal.returns-else-bare
returns-else-bare c = sum_stops c.args.bare c.if-bare.false (c.sees.ensures.no c.if-sees.false) (c.sees-else-sees.ensures.no c.if-sees-2.false) (c.sees-else-sees-2.ensures.no c.if-sees-3.false)
