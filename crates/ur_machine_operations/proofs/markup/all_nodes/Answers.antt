use Rattle.std.proofs.Common.{◌≡◌, ◌∷◌, Some, sym, ap, ◌∙◌, subst, rules}
use Rattle.std.specs.Vec.Iter.{into_iter_items}
use Rattle.ur_terms.specs.Values.{all_nodes, append_option}
use Rattle.ur_machine_operations.proofs.Nodes.{nodes_start, nodes_step, nodes_there, nodes_more}
use Rattle.ur_machine_operations.proofs.markup.all_nodes.Goals as goal

pub loop-part-init : goal.loop-part-init
loop-part-init c =
    let from : into_iter_items c.into_iter-part-iterator.result ≡ c.args.parts = search rules in (
      ap (λ l. append_option (Some l) (all_nodes (into_iter_items c.into_iter-part-iterator.result))) c.new-nodes.ensures ∙ nodes_start _ ∙ ap all_nodes from,
      ap Some (sym c.new-nodes.ensures),
    )

pub into_nodes-requires : goal.into_nodes-requires
into_nodes-requires c =
    let next : into_iter_items c.loop-part.part-iterator ≡ c.in-Some.part ∷ into_iter_items c.next.new.self = search rules in
    nodes_there c.loop-part.nodes c.in-Some.part (into_iter_items c.next.new.self) _
    (subst (λ l. append_option (Some c.loop-part.nodes) (all_nodes l) ≡ all_nodes c.args.parts) next c.loop-part.invariant.0) c.requires

pub loop-part-preserved : goal.loop-part-preserved
loop-part-preserved c =
    let next : into_iter_items c.loop-part.part-iterator ≡ c.in-Some.part ∷ into_iter_items c.next.new.self = search rules in (
      ap (λ l. append_option (Some l) (all_nodes (into_iter_items c.next.new.self))) c.in_ok-nodes.ensures
          ∙ nodes_step c.loop-part.nodes c.into_nodes.result c.in-Some.part (into_iter_items c.next.new.self) _
          (subst (λ l. append_option (Some c.loop-part.nodes) (all_nodes l) ≡ all_nodes c.args.parts) next c.loop-part.invariant.0) c.into_nodes.ensures,
      nodes_more _ c.in-Some.part c.loop-part.nodes c.into_nodes.result c.loop-part.invariant.1 c.into_nodes.ensures ∙ ap Some (sym c.in_ok-nodes.ensures),
    )
