use Rattle.std.proofs.Common.{◌≡◌, drop}
use Rattle.ur_cache.specs.Held.{DropsSoFar}
use Rattle.ur_cache.proofs.held.drop_masked.Given as goal

abbrev pub invariant-loop-mask : goal.invariant-loop-mask
invariant-loop-mask l = DropsSoFar l.masks (drop l.mask-index l.masks) l.fn.index l.fn.held.entries l.fn.dropped l.index l.held.entries l.dropped × (l.held.cap ≡ l.fn.held.cap)
