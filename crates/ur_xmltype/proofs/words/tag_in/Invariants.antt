use Rattle.std.proofs.Common.{◌≡◌, length}
use Rattle.ur_xmltype.specs.Tags.{tag_in}
use Rattle.ur_xmltype.proofs.words.tag_in.Given as goal

abbrev pub invariant-tags : goal.invariant-tags
invariant-tags l = tag_in l.word l.left ≡ tag_in l.word l.tags

abbrev pub decreases-tags : goal.decreases-tags
decreases-tags l = length l.left
