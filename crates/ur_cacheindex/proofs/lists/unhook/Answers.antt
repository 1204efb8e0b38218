use Rattle.std.proofs.Common.{subst, sym}
use Rattle.ur_cacheindex.specs.Linked.{look_at, CanLink, SetsNext, SetsPrev, shorter}
use Rattle.ur_cacheindex.specs.Lists.{SetsHead, head_at, atom_at}
use Rattle.ur_cacheindex.proofs.Linking.{can_prev, can_next, can_alike, rewrites_next, unhooks}
use Rattle.ur_cacheindex.proofs.lists.unhook.Goals as goal

pub set_next-requires : goal.set_next-requires
set_next-requires c = subst (λ l. CanLink l.prev c.args.slot (look_at c.args.nodes.now)) (sym c.link_at-link.ensures)
    (can_prev c.args.heads.now (look_at c.args.nodes.now) c.args.number c.args.held.now c.args.slot c.requires.hooked)

pub set_prev-requires : goal.set_prev-requires
set_prev-requires c =
    can_alike c.link_at-link.result.next c.args.slot (look_at c.args.nodes.now) (look_at c.set_next.new.nodes)
    (rewrites_next c.link_at-link.result.prev c.args.slot c.link_at-link.result.next (look_at c.args.nodes.now) (look_at c.set_next.new.nodes) c.set_next.ensures.sets).alike
    (subst (λ l. CanLink l.next c.args.slot (look_at c.args.nodes.now)) (sym c.link_at-link.ensures)
    (can_next c.args.heads.now (look_at c.args.nodes.now) c.args.number c.args.held.now c.args.slot c.requires.hooked))

pub returns-clause-lists : goal.returns-clause-lists
returns-clause-lists c =
    let node = c.args.held.now.node in
    let head = head_at c.args.heads.now node.site c.args.slot (atom_at node c.args.slot) in
    unhooks c.args.heads.now (look_at c.args.nodes.now) c.args.number c.args.held.now c.args.slot c.requires.hooked (look_at c.set_next.new.nodes) (look_at c.set_prev.new.nodes) c.shorten.new.heads
    (subst (λ l. SetsNext l.prev c.args.slot l.next (look_at c.args.nodes.now) (look_at c.set_next.new.nodes)) c.link_at-link.ensures c.set_next.ensures.sets)
    (subst (λ l. SetsPrev l.next c.args.slot l.prev (look_at c.set_next.new.nodes) (look_at c.set_prev.new.nodes)) c.link_at-link.ensures c.set_prev.ensures.sets)
    (subst (λ l. SetsHead node.site c.args.slot (atom_at node c.args.slot) (shorter l head) c.args.heads.now c.shorten.new.heads) c.link_at-link.ensures c.shorten.ensures.sets)
