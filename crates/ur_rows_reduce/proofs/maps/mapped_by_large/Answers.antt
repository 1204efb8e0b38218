use Rattle.ur_rows_reduce.proofs.Holding.{map-by-large}
use Rattle.ur_rows_reduce.proofs.Applying.{not-empty}
use Rattle.ur_rows_reduce.proofs.maps.mapped_by_large.Goals as goal

pub returns : goal.returns
returns c = λ f n h. map-by-large f c.args.r.now c.in_ok-outline.field-0 n h (not-empty c.is_empty.result c.args.r.now c.is_empty.ensures c.if-is_empty.false) c.in_ok-outline.ensures
