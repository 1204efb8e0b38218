use Rattle.std.proofs.Common.{take}
use Rattle.std.specs.Prelude.{AllPairs}
use Rattle.ur_tags.specs.Routes.{AreApart}
use Rattle.ur_tags.proofs.routes.are_apart.Given as goal

abbrev pub invariant-loop-i : goal.invariant-loop-i
invariant-loop-i l = AllPairs AreApart (take l.i l.routes)
