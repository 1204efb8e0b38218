use Rattle.std.proofs.Common.{◌-◌, arith}
use Rattle.ur_values.proofs.Repeats.{side_by_side}
use Rattle.ur_values.proofs.keys.has_tie.Goals as goal

pub returns-then-is_eq-clause-tie : goal.returns-then-is_eq-clause-tie
returns-then-is_eq-clause-tie c = (
  c.loop-i.i - 1,
  omega arith,
  λ d. side_by_side c.args.key.now c.args.rows.now c.loop-i.i c.index-rows-i.result c.index-rows-i-in-loop-i.result d (omega arith) (omega arith) c.index-rows-i.is c.index-rows-i-in-loop-i.is cc,
)
