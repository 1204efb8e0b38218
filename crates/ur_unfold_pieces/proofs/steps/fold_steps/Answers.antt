use Rattle.ur_unfold_static.proofs.Laws.{grows_so}
use Rattle.ur_unfold_pieces.proofs.steps.fold_steps.Goals as goal

pub returns-in_err-closed-clause-grows : goal.returns-in_err-closed-clause-grows
returns-in_err-closed-clause-grows c = grows_so c.args.closing.now
