use Rattle.std.proofs.Common.{length}
use Rattle.ur_conditions.specs.Terms.{subterms}
use Rattle.ur_invalidate.proofs.numbering.Numbering.+number.Given as goal

abbrev pub decreases-number : goal.decreases-number
decreases-number l = length (subterms l.term.now)
