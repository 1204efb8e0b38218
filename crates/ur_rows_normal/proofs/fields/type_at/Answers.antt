use Rattle.ur_rows_normal.proofs.Finding.{type-found}
use Rattle.ur_rows_normal.proofs.fields.type_at.Goals as goal

pub returns-then-same_label : goal.returns-then-same_label
returns-then-same_label c = type-found c.args.l.now c.in-Field.m c.args.p.now c.in-Field.t c.get.result.now c.same_label.result c.in-Field.is c.same_label.ensures c.if-same_label.true c.get.ensures
