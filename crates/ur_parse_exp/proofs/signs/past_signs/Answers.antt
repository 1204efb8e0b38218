use Rattle.std.proofs.Common.{arith}
use Rattle.ur_parse_exp.specs.Signs.{none, more}
use Rattle.ur_parse_exp.proofs.signs.past_signs.Goals as goal

pub signs-init : goal.signs-init
signs-init c = none

pub signs-preserved : goal.signs-preserved
signs-preserved c = more c.signs.place _ c.signs.invariant (c.sees.ensures.yes c.signs-test.true)

pub signs-smaller : goal.signs-smaller
signs-smaller c = let b = (c.sees.ensures.yes c.signs-test.true).at.below in omega (arith, b)

pub returns-clause-end : goal.returns-clause-end
returns-clause-end c = c.sees.ensures.no c.signs-test.false
