use Rattle.std.proofs.Common.{◌≡◌, ◌++◌, take}
use Rattle.ur_tags.specs.Show.{show_nodes}
use Rattle.ur_tags.proofs.nodes.+nodes.Given as goal

abbrev pub invariant-push_nodes-loop-node : goal.invariant-push_nodes-loop-node
invariant-push_nodes-loop-node l = l.out ≡ l.initial.out ++ show_nodes l.handlers (take l.node-index l.nodes)
