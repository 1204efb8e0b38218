use Rattle.ur_check.proofs.Chains.{two}
use Rattle.ur_check.proofs.TextShapes.{in-element}
use Rattle.ur_check.proofs.texts.+parts.Goals as goal

pub part-returns-in_ok-parts-in-Element : goal.part-returns-in_ok-parts-in-Element
part-returns-in_ok-parts-in-Element t c = two _ _ _ c.in_ok-tag-in-Element.ensures c.in_ok-parts-in-Element.ensures (in-element c.in-Element.is c.as_slice.ensures)
