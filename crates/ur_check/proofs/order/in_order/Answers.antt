use Rattle.std.proofs.Common.{subst}
use Rattle.std.specs.List.Sorted.{IsPermutation}
use Rattle.ur_check.proofs.Ordering.{order-same, order-rises}
use Rattle.ur_check.proofs.order.in_order.Goals as goal

pub returns-clause-same : goal.returns-clause-same
returns-clause-same c =
    order-same c.args.names c.sort.new.self.items c.dedup.new.self.items c.from_vec.result (subst (λ z. IsPermutation z c.sort.new.self.items) c.into_vec-sorted.ensures c.in_ok-sort.ensures.permutation) c.dedup.ensures.filtered c.from_vec.ensures

pub returns-clause-rise : goal.returns-clause-rise
returns-clause-rise c = order-rises c.sort.new.self.items c.dedup.new.self.items c.from_vec.result c.in_ok-sort.ensures.sorted c.dedup.ensures.filtered c.from_vec.ensures
