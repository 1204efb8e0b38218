use Rattle.ur_rows_normal.proofs.Measuring.{no-height}
use Rattle.ur_rows_normal.proofs.levels.height_at.Goals as goal

pub returns-in-None : goal.returns-in-None
returns-in-None c = no-height c.args.heights.now c.args.v.now c.in-Free.n c.in-Free.is c.in-None.ensures.value
