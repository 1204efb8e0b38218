use Rattle.std.proofs.Common.{is_some, sym, ap}
use Rattle.ur_cache.proofs.Recency.{entry_absent, entry_there}
use Rattle.ur_cache.proofs.cache.Cache.has.Goals as goal

pub returns-in-None : goal.returns-in-None
returns-in-None c = rw (← c.self.view_is) (sym (ap is_some (entry_absent c.self.inside.index c.self.inside.held.entries c.self.invariant.0.kept c.args.site c.args.key.now c.in-None.ensures)))

pub returns-in-Some : goal.returns-in-Some
returns-in-Some c = rw (← c.self.view_is) (sym (entry_there c.self.inside.index c.self.inside.held.entries c.self.invariant.0.kept c.args.site c.args.key.now c.in-Some.field-0.number c.in-Some.ensures))
