use Rattle.std.proofs.Common.{drop}
use Rattle.ur_parse_rules.specs.Ends.{sql_last}
use Rattle.ur_parse_rules.specs.SqlParts as s
use Rattle.ur_parse_embed.proofs.assigning.assignments_go_on.Goals as goal

pub returns : goal.returns
returns c = c.comma_or.ensures (drop 1 (sql_last s.more_assignments)) c.sees_operator-operates.ensures
