use Rattle.std.proofs.Common.{ap, ◌∙◌, Err}
use Rattle.ur_rows_reduce.proofs.Holding.{map-over}
use Rattle.ur_rows_reduce.proofs.maps.mapped_small.Goals as goal

pub returns-in_ok-outline-in-TooLarge : goal.returns-in_ok-outline-in-TooLarge
returns-in_ok-outline-in-TooLarge c = map-over c.args.f.now c.args.r.now c.in_ok-outline-in-TooLarge.field-0 (c.left_of_mapped_row.ensures.over (c.in-Err.is ∙ ap Err c.in-TooLarge.is)) c.in_ok-outline-in-TooLarge.ensures
