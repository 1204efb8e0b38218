use Rattle.std.proofs.Common.{sym, ap, ◌∙◌}
use Rattle.ur_cache.specs.Held.{entries_of, unmasked}
use Rattle.ur_cache.specs.contracts.cache.Cache.{the_view}
use Rattle.ur_cache.proofs.Recency.{committed, unmasked_none}
use Rattle.ur_cache.proofs.cache.Cache.commit.Goals as goal

pub returns : goal.returns
returns c =
    let i = c.self.inside in
    let left = entries_of c.drop_masked.new.index c.drop_masked.new.held.entries in
    let entries = sym (unmasked_none left) ∙ c.drop_masked.ensures.drops.entries ∙ ap (λ ms. unmasked ms (entries_of i.index i.held.entries)) c.as_slice.ensures in
    c.drop_masks.ensures ∙ rw (← c.self.view_is) (committed (the_view i) left entries)
