use Rattle.ur_sqltype.proofs.Faultless.{faulty}
use Rattle.ur_sqltype.proofs.law.faulty_is_none.Goals as goal

pub returns : goal.returns
returns c = faulty
