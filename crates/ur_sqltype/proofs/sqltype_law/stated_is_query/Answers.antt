use Rattle.ur_sqltype.proofs.Whole.{is_query}
use Rattle.ur_sqltype.proofs.sqltype_law.stated_is_query.Goals as goal

pub returns : goal.returns
returns c = is_query
