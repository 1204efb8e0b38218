use Rattle.ur_names.proofs.Indexing.{one_back, none_back}
use Rattle.ur_names.proofs.keys.taken_back.Goals as goal

pub returns-in-Some : goal.returns-in-Some
returns-in-Some c = one_back c.args.entries.now c.pop.new.self c.in-Some._entry c.in-Some.ensures

pub returns-in-None : goal.returns-in-None
returns-in-None c = none_back c.args.entries.now c.pop.new.self c.in-None.ensures.0 c.in-None.ensures.1
