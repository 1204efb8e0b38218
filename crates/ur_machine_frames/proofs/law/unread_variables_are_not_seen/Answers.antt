use Rattle.ur_machine_frames.proofs.Alike.{eval_alike, cost_alike}
use Rattle.ur_machine_frames.proofs.law.unread_variables_are_not_seen.Goals as goal

pub returns-clause-comes : goal.returns-clause-comes
returns-clause-comes c = λ d c a i env env' s u h. eval_alike d c a i env env' s u h

pub returns-clause-costs : goal.returns-clause-costs
returns-clause-costs c = λ d c k a i env env' s u h. cost_alike d c k a i env env' s u h
