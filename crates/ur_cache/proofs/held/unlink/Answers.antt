use Rattle.std.specs.FinMap.{get}
use Rattle.ur_cache.proofs.Recency.{none_of, removed_absent}
use Rattle.ur_cache.proofs.held.unlink.Goals as goal

pub returns-else-has : goal.returns-else-has
returns-else-has c = removed_absent c.args.index.now c.args.number (none_of c.has.result (get c.args.index.now c.args.number) c.has.ensures c.if-has.false)
