use Rattle.ur_check_walk.proofs.Applying.{many-there, one-there}
use Rattle.ur_check_walk.proofs.applied.sole.Goals as goal

pub returns-in-None-pop-clause-sole : goal.returns-in-None-pop-clause-sole
returns-in-None-pop-clause-sole c = one-there c.args.args c.pop.new.self c.in-Some.e c.in-Some.ensures c.in-None-pop.ensures.0

pub returns-in-Some-clause-refused : goal.returns-in-Some-clause-refused
returns-in-Some-clause-refused c = many-there c.args.args c.pop.new.self c.pop-in-Some.new.self c.in-Some.e c.in-Some-pop.second c.extra_argument.result c.in-Some.ensures c.in-Some-pop.ensures c.extra_argument.ensures
