-- All tokens so far are signs.
use Rattle.std.proofs.Common.{◌-◌, length}
use Rattle.ur_parse_exp.specs.Signs.{SignsTo}
use Rattle.ur_parse_exp.proofs.signs.past_signs.Given as goal

abbrev pub invariant-signs : goal.invariant-signs
invariant-signs l = SignsTo l.tokens l.at l.place

abbrev pub decreases-signs : goal.decreases-signs
decreases-signs l = length l.tokens - l.place
