use Rattle.std.proofs.Common.{take}
use Rattle.std.specs.Prelude.{All}
use Rattle.ur_tags.specs.Routes.{AreApart}
use Rattle.ur_tags.proofs.routes.is_apart.Given as goal

abbrev pub invariant-loop-other : goal.invariant-loop-other
invariant-loop-other l = All (λ other. AreApart other l.route) (take l.other-index l.others)
