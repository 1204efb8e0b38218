use Rattle.std.proofs.Common.{take}
use Rattle.ur_invalidate.specs.Stages.{AddsAllSides}
use Rattle.ur_invalidate.proofs.pair_numbers.number_sides.Given as goal

abbrev pub invariant-loop-sides : goal.invariant-loop-sides
invariant-loop-sides l = AddsAllSides l.initial.numbering l.numbering (take l.sides-index l.disequations) l.all
