use Rattle.ur_unfold_static.proofs.Laws.{grows_so}
use Rattle.ur_unfold_pieces.proofs.nodes.joined.Goals as goal

pub returns-in-None-clause-grows : goal.returns-in-None-clause-grows
returns-in-None-clause-grows c = grows_so c.args.closing.now

pub returns-in-None-right-clause-grows : goal.returns-in-None-right-clause-grows
returns-in-None-right-clause-grows c = grows_so c.args.closing.now
