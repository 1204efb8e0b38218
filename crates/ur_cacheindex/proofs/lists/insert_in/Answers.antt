use Rattle.ur_cacheindex.specs.Linked.{look_at}
use Rattle.ur_cacheindex.proofs.Hooking.{linked_same_heads}
use Rattle.ur_cacheindex.proofs.lists.insert_in.Goals as goal

pub put_in-requires-clause-linked : goal.put_in-requires-clause-linked
put_in-requires-clause-linked c = linked_same_heads c.args.heads.now c.prepare.new.heads (look_at c.args.nodes.now) c.prepare.ensures.same c.requires.linked

pub returns-in-Err-clause-linked : goal.returns-in-Err-clause-linked
returns-in-Err-clause-linked c = linked_same_heads c.args.heads.now c.prepare.new.heads (look_at c.args.nodes.now) c.prepare.ensures.same c.requires.linked
