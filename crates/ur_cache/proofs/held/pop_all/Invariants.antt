use Rattle.std.proofs.Common.{◌≡◌, drop}
use Rattle.ur_cache.specs.Held.{without_all}
use Rattle.ur_cache.proofs.held.pop_all.Given as goal

abbrev pub invariant-loop-entry : goal.invariant-loop-entry
invariant-loop-entry l = (without_all (drop l.entry-index l.dropped) l.held.entries ≡ without_all l.dropped l.fn.held.entries) × (l.held.cap ≡ l.fn.held.cap)
