use Rattle.std.proofs.Common.{get_or, refl}
use Rattle.ur_invalidate.specs.Reading.{guards_at}
use Rattle.ur_invalidate.proofs.Sites.{numbered_flat}
use Rattle.ur_invalidate.proofs.reading.guards_of.Goals as goal

pub loop-number-preserved : goal.loop-number-preserved
loop-number-preserved c =
    numbered_flat (guards_at c.args.classes.now) c.as_slice-args.result.now c.loop-number.guards c.append.new.self c.in_ok-guards_at.field-0 c.loop-number.number 0 (get_or c.as_slice-args.result.now c.loop-number.number 0)
    c.loop-number-test.true refl c.loop-number.invariant c.in_ok-guards_at.ensures c.in_ok-append.ensures.ok
