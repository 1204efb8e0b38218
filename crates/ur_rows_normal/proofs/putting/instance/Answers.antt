use Rattle.ur_rows_normal.specs.Arguments.{at_numbers}
use Rattle.ur_rows_normal.proofs.Made.{ordered, low, small}
use Rattle.ur_rows_normal.proofs.putting.instance.Goals as goal

pub returns-clause-in_order : goal.returns-clause-in_order
returns-clause-in_order c = ordered c.args.args.now c.args.n.now c.in_ok-made.made.0 c.requires.ordered c.in_ok-made.ensures.form

pub returns-clause-low : goal.returns-clause-low
returns-clause-low c = low (at_numbers c.in_ok-heights.heights.types c.in_ok-heights.heights.rows) c.args.args.now c.args.n.now c.in_ok-made.made.0 c.in_ok-heights.ensures c.in_ok-normal_after.ensures c.in_ok-made.ensures.form

pub returns-clause-small : goal.returns-clause-small
returns-clause-small c = small c.args.args.now c.args.n.now c.in_ok-made.made.0 c.in_ok-made.made.1 c.in_ok-made.ensures.fits c.in_ok-made.ensures.form
