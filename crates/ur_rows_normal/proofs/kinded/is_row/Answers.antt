use Rattle.std.proofs.Common.{ap, sym, ◌∙◌}
use Rattle.ur_rows.specs.Kinded.{kind_at, is_row}
use Rattle.ur_rows_normal.specs.Scope.{within}
use Rattle.ur_rows_normal.proofs.Scoping.{row-bound}
use Rattle.ur_rows_normal.proofs.kinded.is_row.Goals as goal

pub returns-in-Bound : goal.returns-in-Bound
returns-in-Bound c = λ depth. sym (ap (λ v. is_row (kind_at (within c.args.free.now depth) v)) c.in-Bound.is ∙ row-bound c.args.free.now depth c.in-Bound.field-0)
