use Rattle.std.proofs.Common.{length, All}
use Rattle.ur_conditions.specs.Masks.{PatternReads}
use Rattle.ur_conditions.proofs.Items.{at_item}
use Rattle.ur_conditions.proofs.masking.update_masks.Goals as goal

pub site_masks-requires-clause-reads : goal.site_masks-requires-clause-reads
site_masks-requires-clause-reads c =
    at_item (All (PatternReads (length c.args.args.now))) c.as_slice-patterns-items.result.now c.args.sites.now c.loop-patterns.patterns-index c.patterns-item.result
    c.as_slice-patterns-items.ensures c.loop-patterns-test.true c.patterns-item.is c.requires.reads
