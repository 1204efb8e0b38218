use Rattle.std.proofs.Common.{◌+◌, ◌<◌, ◌^◌, ◌-◌, subst, sym, arith}
use Rattle.ur_cache.proofs.Recency.{IsKept-new}
use Rattle.ur_cache.proofs.cache.Cache.new.Goals as goal

pub invariant_of-result : goal.invariant_of-result
invariant_of-result c = (
  IsKept-new c.args.capacity (2 ^ 64 - 1) c.new-2.result c.in_ok-held.held c.in_ok-dropped.dropped c.new-2.ensures c.in_ok-held.ensures c.in_ok-dropped.ensures.empty c.in_ok-dropped.ensures.room,
  subst (λ l. c.args.capacity + 1 < l.cap) (sym c.in_ok-held.ensures) (omega (arith, c.ranges.capacity.fits)),
)
