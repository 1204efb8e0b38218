use Rattle.std.proofs.Common.{◌≡◌, length}
use Rattle.ur_xmltype.specs.Tags.{repeated}
use Rattle.ur_xmltype.proofs.attributes.repeated.Given as goal

abbrev pub invariant-attrs : goal.invariant-attrs
invariant-attrs l = repeated l.left ≡ repeated l.attrs

abbrev pub decreases-attrs : goal.decreases-attrs
decreases-attrs l = length l.left
