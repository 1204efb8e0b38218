use Rattle.std.proofs.Common.{sym, ap, ◌∙◌, subst, option_map}
use Rattle.std.specs.FinMap.{get}
use Rattle.ur_cacheindex.specs.Linked.{look_at, nodes_of, AreLinked}
use Rattle.ur_cacheindex.proofs.Stored.{get-nodes_of, nodes_alike, nodes_insert, get_inserted}
use Rattle.ur_cacheindex.proofs.Hooking.{can_hook_all, linked_same_heads}
use Rattle.ur_cacheindex.proofs.lists.put_in.Goals as goal

pub hook_each-requires : goal.hook_each-requires
hook_each-requires c =
    can_hook_all c.args.heads.now c.args.nodes.now c.insert.new.self c.in-Ok.number c.args.linked c.requires.linked c.in-Ok.ensures.0 c.in-Ok.ensures.1 c.requires.slots c.requires.kept

pub returns-in-Ok-clause-inserts : goal.returns-in-Ok-clause-inserts
returns-in-Ok-clause-inserts c = (
  get-nodes_of c.args.nodes.now c.in-Ok.number ∙ ap (option_map (λ x. x.node)) c.in-Ok.ensures.0,
  nodes_alike c.insert.new.self c.hook_each.new.nodes c.hook_each.ensures.alike ∙ ap nodes_of c.in-Ok.ensures.1 ∙ nodes_insert c.args.nodes.now c.in-Ok.number c.args.linked,
)

pub returns-in-Err-clause-linked : goal.returns-in-Err-clause-linked
returns-in-Err-clause-linked c =
    subst (λ s. AreLinked c.tidy_each.new.heads (look_at s)) (sym c.in-Err.ensures.1) (linked_same_heads c.args.heads.now c.tidy_each.new.heads (look_at c.args.nodes.now) c.tidy_each.ensures.same c.requires.linked)

pub returns-in-Ok-clause-filled : goal.returns-in-Ok-clause-filled
returns-in-Ok-clause-filled c =
    c.hook_each.ensures.filled c.args.linked.node
    (ap (option_map (λ x. x.node)) (ap (λ s. get s c.in-Ok.number) c.in-Ok.ensures.1 ∙ get_inserted c.args.nodes.now c.in-Ok.number c.args.linked)) c.requires.filled
