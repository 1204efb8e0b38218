use Rattle.ur_sqltype_statements.proofs.Untyped.{untyped}
use Rattle.ur_sqltype_statements.proofs.law.broken_query_is_untyped.Goals as goal

pub returns : goal.returns
returns c = untyped c.faulty_query_is_none.ensures
