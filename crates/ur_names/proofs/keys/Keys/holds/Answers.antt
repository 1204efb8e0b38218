use Rattle.std.proofs.Common.{◌≡◌, List, nat_lt, subst}
use Rattle.std.specs.List.{list_any}
use Rattle.ur_names.specs.declared.keys.Key.{Key}
use Rattle.ur_names.specs.Indexed.{same_spot}
use Rattle.ur_names.proofs.Indexing.{there}
use Rattle.ur_names.proofs.keys.Keys.holds.Goals as goal

pub returns : goal.returns
returns c = subst (λ (ks : List Key). nat_lt 0 c.end.result ≡ list_any (same_spot c.args.spot.now) ks) c.self.view_is
    (there c.self.inside.entries c.self.inside.ends c.args.spot.now c.end.result c.self.invariant c.end.ensures)
