use Rattle.ur_code.proofs.Unstuck.{never_stuck}
use Rattle.ur_code.proofs.law.never_stuck.Goals as goal

pub returns : goal.returns
returns c = λ fit call s request h. never_stuck c.args.code.now fit call s request h
