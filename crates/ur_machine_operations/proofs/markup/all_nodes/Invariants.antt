use Rattle.std.proofs.Common.{◌≡◌, Some}
use Rattle.std.specs.Vec.Iter.{into_iter_items}
use Rattle.ur_terms.specs.Values.{all_nodes, append_option}
use Rattle.ur_machine_operations.proofs.markup.all_nodes.Given as goal

abbrev pub invariant-loop-part : goal.invariant-loop-part
invariant-loop-part l =
    (append_option (Some l.nodes) (all_nodes (into_iter_items l.part-iterator)) ≡ all_nodes l.fn.parts) × (all_nodes l.yielded ≡ Some l.nodes)
