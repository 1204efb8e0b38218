use Rattle.std.proofs.Common.{take}
use Rattle.ur_invalidate.specs.Reading.{AreSitePatterns}
use Rattle.ur_invalidate.proofs.site.site_patterns.Given as goal

abbrev pub invariant-loop-site : goal.invariant-loop-site
invariant-loop-site l = AreSitePatterns (take l.site l.queries) l.change l.lists
