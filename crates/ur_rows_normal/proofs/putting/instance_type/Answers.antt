use Rattle.ur_rows_normal.specs.Arguments.{at_numbers}
use Rattle.ur_rows_normal.proofs.Made.{type-ordered, type-low, type-small}
use Rattle.ur_rows_normal.proofs.putting.instance_type.Goals as goal

pub returns-clause-in_order : goal.returns-clause-in_order
returns-clause-in_order c = type-ordered c.args.args.now c.args.t.now c.in_ok-made.made.0 c.requires.ordered c.in_ok-made.ensures.form

pub returns-clause-low : goal.returns-clause-low
returns-clause-low c = type-low (at_numbers c.in_ok-heights.heights.types c.in_ok-heights.heights.rows) c.args.args.now c.args.t.now c.in_ok-made.made.0 c.in_ok-heights.ensures c.in_ok-type_after.ensures c.in_ok-made.ensures.form

pub returns-clause-small : goal.returns-clause-small
returns-clause-small c = type-small c.args.args.now c.args.t.now c.in_ok-made.made.0 c.in_ok-made.made.1 c.in_ok-made.ensures.fits c.in_ok-made.ensures.form
