use Rattle.ur_sqltype.proofs.FittingChange.{is_change}
use Rattle.ur_sqltype.proofs.sqltype_law.stated_is_change.Goals as goal

pub returns : goal.returns
returns c = is_change
