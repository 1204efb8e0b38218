use Rattle.std.proofs.Common.{take}
use Rattle.ur_conditions.specs.Pairs.{side_terms}
use Rattle.ur_invalidate.specs.Stages.{Stands}
use Rattle.ur_invalidate.proofs.pair_numbers.equate_all.Given as goal

abbrev pub invariant-loop-equation : goal.invariant-loop-equation
invariant-loop-equation l = Stands (take l.equation-index l.equations) (side_terms (take l.equation-index l.equations)) l.numbering
