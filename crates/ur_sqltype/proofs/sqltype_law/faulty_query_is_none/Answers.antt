use Rattle.ur_sqltype.proofs.Faulty.{faulty_query}
use Rattle.ur_sqltype.proofs.sqltype_law.faulty_query_is_none.Goals as goal

pub returns : goal.returns
returns c = faulty_query c.faulty_is_none.ensures
