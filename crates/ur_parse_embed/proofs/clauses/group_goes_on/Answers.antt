use Rattle.std.proofs.Common.{drop}
use Rattle.ur_parse_rules.specs.Ends.{sql_last}
use Rattle.ur_parse_rules.specs.SqlParts as s
use Rattle.ur_parse_embed.proofs.Ending.{none_starts}
use Rattle.ur_parse_embed.proofs.clauses.group_goes_on.Goals as goal

pub returns : goal.returns
returns c = c.comma_or.ensures (drop 1 (sql_last s.group)) (c.word_or-again.ensures (drop 2 (sql_last s.group)) (none_starts (drop c.args.at c.args.tokens.now)))
