use Rattle.std.proofs.Common.{drop}
use Rattle.ur_parse_rules.specs.Ends.{sql_operators}
use Rattle.ur_parse_embed.proofs.ends.sees_operator.Goals as goal

pub returns : goal.returns
returns c = c.word_or.ensures (drop 1 (sql_operators c.args.bare)) (c.word_or-joins.ensures (drop 2 (sql_operators c.args.bare)) c.goes_on-compares.ensures)
