use Rattle.std.proofs.Common.{ap, sym, subst, ◌∙◌, option_map}
use Rattle.std.specs.FinMap.{get}
use Rattle.ur_cacheindex.specs.Linked.{look_at, nodes_of, AreLinked, UnhooksAll}
use Rattle.ur_cacheindex.proofs.Stored.{there_stored, get-nodes_of, get_removed, nodes_alike, nodes_remove}
use Rattle.ur_cacheindex.proofs.Linking.{took, linked_without}
use Rattle.ur_cacheindex.proofs.lists.unlink_in.Goals as goal

pub take-held-requires : goal.take-held-requires
take-held-requires c = there_stored c.args.nodes.now c.args.number c.requires.there

pub unhook_each-requires-clause-linked : goal.unhook_each-requires-clause-linked
unhook_each-requires-clause-linked c =
    subst (λ l. AreLinked c.args.heads.now l) (took c.args.nodes.now c.take-held.new.self c.args.number c.take-held.result c.take-held.ensures.item c.take-held.ensures.left) c.requires.linked

pub unhook_each-requires-clause-absent : goal.unhook_each-requires-clause-absent
unhook_each-requires-clause-absent c = ap (λ s. get s c.args.number) c.take-held.ensures.left ∙ get_removed c.args.nodes.now c.args.number

pub returns-clause-node : goal.returns-clause-node
returns-clause-node c = get-nodes_of c.args.nodes.now c.args.number ∙ ap (option_map (λ x. x.node)) c.take-held.ensures.item

pub returns-clause-left : goal.returns-clause-left
returns-clause-left c =
    nodes_alike c.take-held.new.self c.unhook_each.new.nodes c.unhook_each.ensures.alike ∙ ap nodes_of c.take-held.ensures.left ∙ nodes_remove c.args.nodes.now c.args.number

pub returns-clause-linked : goal.returns-clause-linked
returns-clause-linked c =
    linked_without c.args.heads.now c.unhook_each.new.heads (look_at c.take-held.new.self) (look_at c.unhook_each.new.nodes) c.args.number c.take-held.result
    (subst (λ l. AreLinked c.args.heads.now l) (took c.args.nodes.now c.take-held.new.self c.args.number c.take-held.result c.take-held.ensures.item c.take-held.ensures.left) c.requires.linked)
    (ap (λ s. get s c.args.number) c.take-held.ensures.left ∙ get_removed c.args.nodes.now c.args.number) c.unhook_each.ensures.alike c.unhook_each.ensures.lists

pub returns-clause-lists : goal.returns-clause-lists
returns-clause-lists c =
    subst (λ l. UnhooksAll c.args.number c.args.heads.now l c.unhook_each.new.heads (look_at c.unhook_each.new.nodes))
    (sym (took c.args.nodes.now c.take-held.new.self c.args.number c.take-held.result c.take-held.ensures.item c.take-held.ensures.left)) c.unhook_each.ensures.lists
