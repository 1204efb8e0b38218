use Rattle.std.proofs.Common.{drop}
use Rattle.ur_parse_rules.specs.Ends.{sql_last}
use Rattle.ur_parse_rules.specs.SqlParts as s
use Rattle.ur_parse_embed.proofs.clauses.key_goes_on.Goals as goal

pub returns : goal.returns
returns c = c.word_or.ensures (drop 1 (sql_last s.order_key)) (c.word_or-falls.ensures (drop 2 (sql_last s.order_key)) c.sees_operator-operates.ensures)
