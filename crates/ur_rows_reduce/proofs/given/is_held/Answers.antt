use Rattle.std.proofs.Common.{subst}
use Rattle.ur_rows_reduce.specs.Held.{Means}
use Rattle.ur_rows_reduce.proofs.Holding.{type-held, row-held}
use Rattle.ur_rows_reduce.proofs.given.is_held.Goals as goal

pub returns-in-Type-a : goal.returns-in-Type-a
returns-in-Type-a c = λ n t e m. type-held c.args.f.now c.in-Fn.c c.get.result.now n c.in-Fn.field-0 c.holds.result c.in-Fn.is c.get.ensures c.holds.ensures t e (subst (λ z. Means z n) c.in-Type-a.is m)

pub returns-in-Row-a : goal.returns-in-Row-a
returns-in-Row-a c = λ n t e m. row-held c.args.f.now c.in-Fn.c c.get-in-Row-a.result.now n c.in-Fn.field-0 c.holds-in-Row-a.result c.in-Row-a.field-0 c.in-Fn.is c.get-in-Row-a.ensures c.holds-in-Row-a.ensures t e (subst (λ z. Means z n) c.in-Row-a.is m)
