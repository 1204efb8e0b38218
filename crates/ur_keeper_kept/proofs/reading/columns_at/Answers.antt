use Rattle.std.proofs.Common.{◌∙◌}
use Rattle.ur_keeper_kept.proofs.GrowingStores.{columns-there}
use Rattle.ur_keeper_kept.proofs.reading.columns_at.Goals as goal

pub returns : goal.returns
returns c =
    c.as_slice-2.ensures
    ∙ columns-there c.args.schema.now c.as_slice.result.now c.args.table c.index-as_slice-table.result c.as_slice.ensures c.requires
