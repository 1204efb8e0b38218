use Rattle.std.proofs.Common.{drop}
use Rattle.ur_parse_rules.specs.Ends.{sql_last}
use Rattle.ur_parse_rules.specs.SqlParts as s
use Rattle.ur_parse_embed.proofs.from.items_go_on.Goals as goal

pub returns : goal.returns
returns c = c.comma_or.ensures (drop 1 (sql_last s.more_items)) (c.word_or-named.ensures (drop 2 (sql_last s.more_items)) (c.word_or-joins.ensures (drop 3 (sql_last s.more_items)) c.sees_operator-operates.ensures))
