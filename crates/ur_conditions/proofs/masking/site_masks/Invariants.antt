use Rattle.std.proofs.Common.{◌≡◌, take, map}
use Rattle.ur_cacheindex.specs.Matching.{read_mask}
use Rattle.ur_conditions.specs.Masks.{masks_of}
use Rattle.ur_conditions.proofs.masking.site_masks.Given as goal

abbrev pub invariant-loop-pattern : goal.invariant-loop-pattern
invariant-loop-pattern l = map read_mask l.all ≡ masks_of l.args (take l.pattern-index l.patterns)
