use Rattle.ur_unfold_static.proofs.Laws.{grows_so}
use Rattle.ur_unfold_pieces.proofs.lambdas.added.Goals as goal

pub returns-then-not-fits-clause-grows : goal.returns-then-not-fits-clause-grows
returns-then-not-fits-clause-grows c = grows_so c.args.closing.now
