use Rattle.std.proofs.Common.{◌≡◌, ◌++◌, take, flat_map}
use Rattle.ur_check.specs.Parts.{of_xml_part}
use Rattle.ur_check.proofs.texts.+parts.Given as goal

abbrev pub invariant-parts-loop-x : goal.invariant-parts-loop-x
invariant-parts-loop-x l = l.out ≡ l.initial.out ++ flat_map of_xml_part (take l.x-index l.xs)
