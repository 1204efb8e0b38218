use Rattle.ur_conditions.specs.Pairs.{AreAtoms}
use Rattle.ur_invalidate.proofs.Sites.{at_place, pair_read}
use Rattle.ur_invalidate.proofs.site.read_pairs.Goals as goal

pub pattern_of-requires : goal.pattern_of-requires
pattern_of-requires c = at_place AreAtoms c.args.pairs.now c.loop-pair.pair-index c.pair-item.result c.loop-pair-test.true c.pair-item.is c.requires

pub loop-pair-preserved : goal.loop-pair-preserved
loop-pair-preserved c =
    pair_read c.args.site c.args.pairs.now c.loop-pair.pair-index c.pair-item.result c.loop-pair.kept c.in_ok-kept.kept c.in_ok-pattern_of.field-0 c.loop-pair-test.true c.pair-item.is c.loop-pair.invariant
    c.in_ok-pattern_of.ensures c.in_ok-kept.ensures
