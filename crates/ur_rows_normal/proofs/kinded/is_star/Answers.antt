use Rattle.std.proofs.Common.{ap, sym, ◌∙◌}
use Rattle.ur_rows.specs.Kinded.{kind_at, is_star}
use Rattle.ur_rows_normal.specs.Scope.{within}
use Rattle.ur_rows_normal.proofs.Scoping.{star-bound}
use Rattle.ur_rows_normal.proofs.kinded.is_star.Goals as goal

pub returns-in-Bound : goal.returns-in-Bound
returns-in-Bound c = sym (ap (λ v. is_star (kind_at (within c.args.free.now c.args.depth) v)) c.in-Bound.is ∙ star-bound c.args.free.now c.args.depth c.in-Bound.i)
