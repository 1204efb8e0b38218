use Rattle.std.proofs.Common.{take}
use Rattle.std.specs.List.{AllZip}
use Rattle.ur_invalidate.specs.Reading.{AreSitePatterns}
use Rattle.ur_invalidate.proofs.whole.patterns.Given as goal

abbrev pub invariant-loop-change : goal.invariant-loop-change
invariant-loop-change l = AllZip (AreSitePatterns l.queries) (take l.change-index l.changes) l.updates
