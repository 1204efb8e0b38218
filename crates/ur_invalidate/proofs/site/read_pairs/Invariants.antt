use Rattle.std.proofs.Common.{take}
use Rattle.ur_conditions.specs.Patterns.{AreRead}
use Rattle.ur_invalidate.proofs.site.read_pairs.Given as goal

abbrev pub invariant-loop-pair : goal.invariant-loop-pair
invariant-loop-pair l = AreRead l.site (take l.pair-index l.pairs) l.kept
