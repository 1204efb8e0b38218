use Rattle.std.proofs.Common.{◌≡◌, length}
use Rattle.ur_xmltype.specs.Literal.{first_of}
use Rattle.ur_xmltype.proofs.sorts.first_of.Given as goal

abbrev pub invariant-parts : goal.invariant-parts
invariant-parts l = first_of l.left ≡ first_of l.parts

abbrev pub decreases-parts : goal.decreases-parts
decreases-parts l = length l.left
