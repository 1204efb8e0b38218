use Rattle.ur_unfold_static.proofs.Laws.{grows_so}
use Rattle.ur_unfold_pieces.proofs.nodes.text_node.Goals as goal

pub returns-in_err-text-clause-grows : goal.returns-in_err-text-clause-grows
returns-in_err-text-clause-grows c = grows_so c.args.closing.now
