use Rattle.std.proofs.Common.{sym}
use Rattle.ur_cache.proofs.Recency.{drops_last}
use Rattle.ur_cache.proofs.held.drop_last.Goals as goal

pub returns-in-Some-clause-drops : goal.returns-in-Some-clause-drops
returns-in-Some-clause-drops c =
    drops_last c.args.index.now c.unlink.new.index c.args.held.now.entries c.pop_last.new.held.entries (c.in-Some.number, c.in-Some._rows) c.requires (sym c.in-Some.ensures.rows) c.unlink.ensures c.pop_last.ensures.left
