use Rattle.std.proofs.Common.{◌≡◌, length, false}
use Rattle.ur_xmltype.specs.Literal.{frame_fault}
use Rattle.ur_xmltype.proofs.frame.frame_fault.Given as goal

abbrev pub invariant-parts : goal.invariant-parts
invariant-parts l = frame_fault l.left l.had_head l.had_body ≡ frame_fault l.parts false false

abbrev pub decreases-parts : goal.decreases-parts
decreases-parts l = length l.left
