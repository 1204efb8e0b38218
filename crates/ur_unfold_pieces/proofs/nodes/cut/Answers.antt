use Rattle.ur_unfold_static.proofs.Laws.{grows_so}
use Rattle.ur_unfold_pieces.proofs.nodes.cut.Goals as goal

pub returns-in_err-name_of-in-Some-clause-grows : goal.returns-in_err-name_of-in-Some-clause-grows
returns-in_err-name_of-in-Some-clause-grows c = grows_so c.args.closing.now

pub returns-in-None-clause-grows : goal.returns-in-None-clause-grows
returns-in-None-clause-grows c = grows_so c.args.closing.now

pub returns-in-None-2-clause-grows : goal.returns-in-None-2-clause-grows
returns-in-None-2-clause-grows c = grows_so c.args.closing.now
