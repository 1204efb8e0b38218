use Rattle.ur_kinds.proofs.Values.{closed-is}
use Rattle.ur_kinds.proofs.state.close.Goals as goal

pub returns-in-Some : goal.returns-in-Some
returns-in-Some c = closed-is c.args.state.now c.pop.new.self c.in-Some.frame c.cut.new.items c.cut-in-Some.new.items c.in-Some.ensures c.cut.ensures c.cut-in-Some.ensures
