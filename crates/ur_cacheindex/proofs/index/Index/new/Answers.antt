use Rattle.std.proofs.Common.{ap, ◌∙◌}
use Rattle.ur_cacheindex.specs.Linked.{nodes_of}
use Rattle.ur_cacheindex.proofs.Stored.{nodes_empty}
use Rattle.ur_cacheindex.proofs.Walking.{linked_empty}
use Rattle.ur_cacheindex.proofs.Filling.{filled_none}
use Rattle.ur_cacheindex.proofs.index.Index.new.Goals as goal

pub invariant_of-result : goal.invariant_of-result
invariant_of-result c = (linked_empty c.new-2.result c.new.result c.new-2.ensures c.new.ensures, filled_none c.new-2.result c.new-2.ensures)

pub returns : goal.returns
returns c = ap nodes_of c.new.ensures ∙ nodes_empty
