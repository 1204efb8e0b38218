use Rattle.ur_unfold_pieces.proofs.Arms.{some_is, node_function}
use Rattle.ur_unfold_pieces.proofs.Keeping.{ok-along}
use Rattle.ur_unfold_pieces.proofs.nodes.function_node.Goals as goal

pub returns-clause-made : goal.returns-clause-made
returns-clause-made c = ok-along c.some_added.result (λ j h. some_is c.some_added.new.closing.statics j _ _ h (node_function c.instances_of.new.closing c.args.k c.in_ok-cons.cons _ c.in_ok-cons.ensures.made)) c.some_added.ensures.made
