use Rattle.std.proofs.Common.{◌<◌, Some, None, ap, sym, subst, ◌∙◌, option_map, arith}
use Rattle.std.specs.FinMap.{len}
use Rattle.ur_cacheindex.specs.Lists.{head_at, atom_at, KeepsHead}
use Rattle.ur_cacheindex.specs.Linked.{look_at, longer, SetsNext, SetsPrev, Hooks}
use Rattle.ur_cacheindex.proofs.Listing.{sets_of_keeps}
use Rattle.ur_cacheindex.proofs.Linking.{rewrites_next, rewrites_prev, rewrites_then, can_alike}
use Rattle.ur_cacheindex.proofs.Hooking.{can_first, hooks, same_node, room_for_one}
use Rattle.ur_cacheindex.proofs.Filling.{but_longer, longer_filled}
use Rattle.ur_cacheindex.proofs.lists.hook.Goals as goal

pub lengthen-first-requires-clause-room : goal.lengthen-first-requires-clause-room
lengthen-first-requires-clause-room c =
    let look = look_at c.args.nodes.now in
    let same = same_node look c.args.number c.at.result.now.node c.requires.node (ap (option_map (λ x. x.node)) c.at.ensures.item) c.requires.stands_there in
    let l : (head_at c.args.heads.now c.at.result.now.node.site c.args.slot (atom_at c.at.result.now.node c.args.slot)).len < len c.args.nodes.now =
    subst (λ v. (head_at c.args.heads.now v.site c.args.slot (atom_at v c.args.slot)).len < len c.args.nodes.now) (sym same)
    (room_for_one c.args.slot c.args.heads.now c.args.nodes.now c.args.number c.requires)
    in
    let r = c.len-all.ensures in
    let t = c.len-all.type_inv in
    omega (arith, l, r, t)

pub set_prev-requires-2 : goal.set_prev-requires-2
set_prev-requires-2 c =
    let look = look_at c.args.nodes.now in
    let n = c.args.number in
    let slot = c.args.slot in
    let heads = c.args.heads.now in
    let same = same_node look n c.at.result.now.node c.requires.node (ap (option_map (λ x. x.node)) c.at.ensures.item) c.requires.stands_there in
    let first = c.lengthen-first.ensures.first ∙ ap (λ v. (head_at heads v.site slot (atom_at v slot)).first) same in
    can_alike c.lengthen-first.result slot look (look_at c.set_prev.new.nodes)
    (rewrites_then slot look (look_at c.set_next.new.nodes) (look_at c.set_prev.new.nodes)
    (rewrites_next (Some n) slot c.lengthen-first.result look (look_at c.set_next.new.nodes) c.set_next.ensures.sets)
    (rewrites_prev (Some n) slot None (look_at c.set_next.new.nodes) (look_at c.set_prev.new.nodes) c.set_prev.ensures.sets)).alike
    (λ m e. can_first slot heads look n c.requires m (sym first ∙ e))

pub returns-clause-lists : goal.returns-clause-lists
returns-clause-lists c = λ node has.
    let look = look_at c.args.nodes.now in
    let n = c.args.number in
    let slot = c.args.slot in
    let heads = c.args.heads.now in
    let one = look_at c.set_next.new.nodes in
    let two = look_at c.set_prev.new.nodes in
    let last = look_at c.set_prev-2.new.nodes in
    let same = same_node look n c.at.result.now.node c.requires.node (ap (option_map (λ x. x.node)) c.at.ensures.item) c.requires.stands_there in
    let first = c.lengthen-first.ensures.first ∙ ap (λ v. (head_at heads v.site slot (atom_at v slot)).first) same in
    let its = c.requires.node in
    subst (λ v. Hooks v.site slot (atom_at v slot) n heads look c.lengthen-first.new.heads last) (same_node look n its node c.requires.stands_there has)
    (hooks slot heads look n c.requires one two last c.lengthen-first.new.heads (subst (λ o. SetsNext (Some n) slot o look one) first c.set_next.ensures.sets) c.set_prev.ensures.sets
    (subst (λ o. SetsPrev o slot (Some n) two last) first c.set_prev-2.ensures.sets)
    (sets_of_keeps its.site slot (atom_at its slot) (longer n (head_at heads its.site slot (atom_at its slot))) heads c.lengthen-first.new.heads
    (subst (λ v. KeepsHead v.site slot (atom_at v slot) (longer n (head_at heads v.site slot (atom_at v slot))) heads c.lengthen-first.new.heads) same c.lengthen-first.ensures.heads)))

pub returns-clause-alike : goal.returns-clause-alike
returns-clause-alike c =
    let look = look_at c.args.nodes.now in
    let n = c.args.number in
    let slot = c.args.slot in
    let one = look_at c.set_next.new.nodes in
    let two = look_at c.set_prev.new.nodes in
    let last = look_at c.set_prev-2.new.nodes in
    (rewrites_then slot look two last
    (rewrites_then slot look one two (rewrites_next (Some n) slot c.lengthen-first.result look one c.set_next.ensures.sets) (rewrites_prev (Some n) slot None one two c.set_prev.ensures.sets))
    (rewrites_prev c.lengthen-first.result slot (Some n) two last c.set_prev-2.ensures.sets)).alike

pub returns-clause-filled : goal.returns-clause-filled
returns-clause-filled c = λ node has but.
    let n = c.args.number in
    let slot = c.args.slot in
    let heads = c.args.heads.now in
    let same = same_node (look_at c.args.nodes.now) n c.at.result.now.node node (ap (option_map (λ x. x.node)) c.at.ensures.item) has in
    let head = longer n (head_at heads node.site slot (atom_at node slot)) in
    but_longer slot node head heads c.lengthen-first.new.heads
    (subst (λ v. KeepsHead v.site slot (atom_at v slot) (longer n (head_at heads v.site slot (atom_at v slot))) heads c.lengthen-first.new.heads) same c.lengthen-first.ensures.heads)
    (longer_filled n (head_at heads node.site slot (atom_at node slot))) but
