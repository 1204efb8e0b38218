use Rattle.std.proofs.Common.{ap, ◌∙◌}
use Rattle.ur_cache.specs.Held.{without_all}
use Rattle.ur_cache.proofs.Recency.{matching_dropped}
use Rattle.ur_cache.proofs.held.drop_matching.Goals as goal

pub returns-clause-keeps : goal.returns-clause-keeps
returns-clause-keeps c =
    matching_dropped c.args.mask.now c.args.index.now c.drop_matching.new.self c.args.held.now.entries c.pop_all.new.held.entries c.args.dropped.now c.drop_matching.new.dropped c.clear.new.self c.new-steps.result
    c.drop_matching.new.steps c.requires.held c.requires.empty c.drop_matching.ensures.nodes c.drop_matching.ensures.room (c.pop_all.ensures.left ∙ ap (λ xs. without_all xs c.args.held.now.entries) c.items.ensures) c.clear.ensures
