use Rattle.std.proofs.Common.{ap, sym, ◌∙◌}
use Rattle.ur_rows.specs.Kinded.{kind_at, is_name}
use Rattle.ur_rows_normal.specs.Scope.{within}
use Rattle.ur_rows_normal.proofs.Scoping.{name-bound}
use Rattle.ur_rows_normal.proofs.kinded.is_name.Goals as goal

pub returns-in-Bound : goal.returns-in-Bound
returns-in-Bound c = λ depth. sym (ap (λ v. is_name (kind_at (within c.args.free.now depth) v)) c.in-Bound.is ∙ name-bound c.args.free.now depth c.in-Bound.field-0)
