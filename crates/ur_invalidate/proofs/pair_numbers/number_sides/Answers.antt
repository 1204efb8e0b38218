use Rattle.std.proofs.Common.{◌+◌, take, sym, subst}
use Rattle.ur_invalidate.specs.Stages.{AddsAllSides}
use Rattle.ur_invalidate.proofs.Stages.{sides_more}
use Rattle.ur_invalidate.proofs.pair_numbers.number_sides.Goals as goal

pub loop-sides-preserved : goal.loop-sides-preserved
loop-sides-preserved c =
    subst (λ all. AddsAllSides c.args.numbering.now c.sides.new.self (take (c.loop-sides.sides-index + 1) c.args.disequations.now) all) (sym c.in_ok-push.ensures.ok)
    (sides_more c.args.disequations.now c.loop-sides.sides-index c.sides-item.result c.args.numbering.now c.loop-sides.numbering c.sides.new.self c.loop-sides.all c.in_ok-numbers.numbers
    c.loop-sides-test.true c.sides-item.is c.loop-sides.invariant c.in_ok-numbers.ensures)
