-- The size and the nesting of the list, and of the values as far as the numbers go.
use Rattle.std.proofs.Common.{arith}
use Rattle.ur_machine.proofs.Giving.{small_by_nesting, not_small}
use Rattle.ur_machine.proofs.given.are_small.Goals as goal

pub returns-then-size-le16777216 : goal.returns-then-size-le16777216
returns-then-size-le16777216 c =
    small_by_nesting c.args.values.now c.loop-value.value-index c.loop-value.size c.loop-value.nesting (omega arith)
    c.loop-value.invariant.0 c.loop-value.invariant.1 (omega arith)

pub returns-else-size-le16777216 : goal.returns-else-size-le16777216
returns-else-size-le16777216 c =
    not_small c.args.values.now c.loop-value.value-index c.loop-value.size (omega arith) c.loop-value.invariant.0 (omega arith)
