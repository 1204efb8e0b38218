use Rattle.ur_sqltype_statements.proofs.SqlchangeUntyped.{untyped}
use Rattle.ur_sqltype_statements.proofs.sqlchange_law.broken_change_is_untyped.Goals as goal

pub returns : goal.returns
returns c = untyped c.faulty_change_is_none.ensures
