use Rattle.ur_rows_reduce.proofs.Lifting.{mapped-low}
use Rattle.ur_rows_reduce.proofs.putting.mapped_is_low.Goals as goal

pub returns : goal.returns
returns c = mapped-low c.args.f.now c.args.r.now c.in_ok-row.row c.in_ok-type_height.field-0 c.in_ok-left.left c.args.levels
    c.in_ok-row.ensures.0 c.in_ok-left.ensures c.in_ok-type_height.ensures.0 c.in_ok-type_height.ensures.1
