use Rattle.std.proofs.Common.{drop}
use Rattle.ur_parse_rules.specs.Ends.{sql_last}
use Rattle.ur_parse_rules.specs.SqlParts as s
use Rattle.ur_parse_embed.proofs.query.query_goes_on.Goals as goal

pub returns : goal.returns
returns c = c.comma_or.ensures (drop 1 (sql_last s.query)) (c.word_or-named.ensures (drop 2 (sql_last s.query)) (c.word_or-joins.ensures (drop 3 (sql_last s.query)) (c.word_or-filter.ensures (drop 4 (sql_last s.query)) (c.word_or-group.ensures (drop 5 (sql_last s.query)) (c.word_or-order.ensures (drop 6 (sql_last s.query)) (c.word_or-rises.ensures (drop 7 (sql_last s.query)) (c.word_or-falls.ensures (drop 8 (sql_last s.query)) (c.word_or-limit.ensures (drop 9 (sql_last s.query)) (c.word_or-offset.ensures (drop 10 (sql_last s.query)) c.sees_operator-operates.ensures)))))))))
