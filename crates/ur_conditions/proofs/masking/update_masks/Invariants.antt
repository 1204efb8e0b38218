use Rattle.std.proofs.Common.{◌≡◌, take, map}
use Rattle.ur_cacheindex.specs.Matching.{read_mask}
use Rattle.ur_conditions.specs.Masks.{update_masks}
use Rattle.ur_conditions.proofs.masking.update_masks.Given as goal

abbrev pub invariant-loop-patterns : goal.invariant-loop-patterns
invariant-loop-patterns l = map read_mask l.all ≡ update_masks l.args (take l.patterns-index l.sites)
