use Rattle.std.proofs.Common.{drop}
use Rattle.ur_parse_rules.specs.Ends.{sql_last}
use Rattle.ur_parse_rules.specs.SqlParts as s
use Rattle.ur_parse_embed.proofs.selection.item_goes_on.Goals as goal

pub returns : goal.returns
returns c = c.word_or.ensures (drop 1 (sql_last s.selected)) c.sees_operator-operates.ensures
