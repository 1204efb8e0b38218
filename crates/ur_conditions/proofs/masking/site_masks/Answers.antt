use Rattle.std.proofs.Common.{length}
use Rattle.ur_conditions.specs.Masks.{PatternReads}
use Rattle.ur_conditions.proofs.Items.{at_item}
use Rattle.ur_conditions.proofs.masking.site_masks.Goals as goal

pub guards_hold-requires : goal.guards_hold-requires
guards_hold-requires c =
    (at_item (PatternReads (length c.args.args.now)) c.as_slice-pattern-items.result.now c.args.patterns.now c.loop-pattern.pattern-index c.pattern-item.result
    c.as_slice-pattern-items.ensures c.loop-pattern-test.true c.pattern-item.is c.requires.reads).1

pub mask_of-requires-clause-reads : goal.mask_of-requires-clause-reads
mask_of-requires-clause-reads c =
    at_item (PatternReads (length c.args.args.now)) c.as_slice-pattern-items.result.now c.args.patterns.now c.loop-pattern.pattern-index c.pattern-item.result
    c.as_slice-pattern-items.ensures c.loop-pattern-test.true c.pattern-item.is c.requires.reads
