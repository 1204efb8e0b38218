use Rattle.ur_sqltype.proofs.FaultyChange.{faulty_change}
use Rattle.ur_sqltype.proofs.sqltype_law.faulty_change_is_none.Goals as goal

pub returns : goal.returns
returns c = faulty_change c.faulty_is_none.ensures
