-- Where something is said, the code does not fit.
use Rattle.ur_verify.proofs.Causes.{causes}
use Rattle.ur_verify.proofs.law.misfits_are_causes.Goals as goal

pub returns : goal.returns
returns c = causes
