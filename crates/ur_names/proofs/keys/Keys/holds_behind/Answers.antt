use Rattle.std.proofs.Common.{◌≡◌, List, drop, nat_lt, subst}
use Rattle.std.specs.List.{list_any}
use Rattle.ur_names.specs.declared.keys.Key.{Key}
use Rattle.ur_names.specs.Indexed.{same_spot}
use Rattle.ur_names.proofs.Indexing.{behind_there}
use Rattle.ur_names.proofs.keys.Keys.holds_behind.Goals as goal

pub returns : goal.returns
returns c = subst (λ (ks : List Key). nat_lt c.args.from c.end.result ≡ list_any (same_spot c.args.spot.now) (drop c.args.from ks)) c.self.view_is
    (behind_there c.self.inside.entries c.self.inside.ends c.args.spot.now c.end.result c.args.from c.self.invariant c.end.ensures)
