use Rattle.ur_rows_reduce.proofs.Holding.{raised-outline}
use Rattle.ur_rows_reduce.proofs.held.raised_outline.Goals as goal

pub returns-in_ok-put_row-in-Some : goal.returns-in_ok-put_row-in-Some
returns-in_ok-put_row-in-Some c = λ r h. raised-outline c.args.by c.args.o.now c.in-Some.s c.in_ok-put_row-in-Some.field-0 r c.in-Some.is c.in_ok-put_row-in-Some.ensures h
