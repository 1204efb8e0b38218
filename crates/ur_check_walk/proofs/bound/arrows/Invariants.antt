use Rattle.std.proofs.Common.{◌≡◌, map, length}
use Rattle.ur_rows.specs.Types.{arrows_of}
use Rattle.ur_check_scopes.specs.declared.locals.Local.{Local}
use Rattle.ur_check_walk.proofs.bound.arrows.Given as goal

abbrev pub invariant-loop-last : goal.invariant-loop-last
invariant-loop-last l = arrows_of (map (λ (x : Local). x.of) l.left) l.of ≡ arrows_of (map (λ (x : Local). x.of) l.locals) l.fn.last_of

abbrev pub decreases-loop-last : goal.decreases-loop-last
decreases-loop-last l = length l.left
