use Rattle.std.proofs.Common.{◌+◌, ◌-◌, ◌/◌}
use Rattle.ur_rows_reduce.proofs.Halving.{between-higher, middle-below}
use Rattle.ur_rows_reduce.proofs.place.place_in.Goals as goal

pub halves-preserved : goal.halves-preserved
halves-preserved c = between-higher c.args.part.now c.args.row.now c.halves.low c.halves.high (c.halves.low + (c.halves.high - c.halves.low) / 2) c.index-row-middle.result c.before-in-halves.result
    c.halves.invariant c.requires (middle-below c.halves.low c.halves.high c.halves-test.true) c.index-row-middle.is c.before-in-halves.ensures c.if-before.false
