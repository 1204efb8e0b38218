use Rattle.std.proofs.Common.{◌≡◌, length}
use Rattle.ur_xmltype.specs.Tags.{value_of}
use Rattle.ur_xmltype.proofs.attributes.value_of.Given as goal

abbrev pub invariant-attrs : goal.invariant-attrs
invariant-attrs l = value_of l.name l.left ≡ value_of l.name l.attrs

abbrev pub decreases-attrs : goal.decreases-attrs
decreases-attrs l = length l.left
