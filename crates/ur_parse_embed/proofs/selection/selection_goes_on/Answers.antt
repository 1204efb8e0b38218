use Rattle.std.proofs.Common.{drop}
use Rattle.ur_parse_rules.specs.Ends.{sql_last}
use Rattle.ur_parse_rules.specs.SqlParts as s
use Rattle.ur_parse_embed.proofs.selection.selection_goes_on.Goals as goal

pub returns : goal.returns
returns c = c.comma_or.ensures (drop 1 (sql_last s.selection)) c.item_goes_on-item.ensures
