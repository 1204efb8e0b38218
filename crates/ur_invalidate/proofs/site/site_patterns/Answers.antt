use Rattle.std.proofs.Common.{All}
use Rattle.ur_conditions.specs.Pairs.{pairs_of, AreAtoms}
use Rattle.ur_conditions.specs.Patterns.{ArePatterns}
use Rattle.ur_invalidate.proofs.Sites.{at_place, numbered_zip}
use Rattle.ur_invalidate.proofs.site.site_patterns.Goals as goal

pub patterns_of-requires : goal.patterns_of-requires
patterns_of-requires c few = at_place (λ q. All AreAtoms (pairs_of q c.args.change.now)) c.args.queries.now c.loop-site.site c.index-queries-site.result c.loop-site-test.true c.index-queries-site.is c.requires

pub loop-site-preserved : goal.loop-site-preserved
loop-site-preserved c =
    numbered_zip (λ site list. ArePatterns site.0 site.1 c.args.change.now list) c.args.queries.now c.loop-site.lists c.push.new.self c.loop-site.site c.index-queries-site.result c.index-queries-site.result
    c.in_ok-patterns_of.field-0 c.loop-site-test.true c.index-queries-site.is c.loop-site.invariant c.in_ok-patterns_of.ensures c.in_ok-push.ensures.ok
