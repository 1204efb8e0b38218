use Rattle.std.proofs.Common.{◌≡◌, sym, ap, subst, ◌∙◌, arith}
use Rattle.ur_cacheindex.specs.Lists.{slots_of}
use Rattle.ur_cacheindex.specs.Linked.{look_at, HooksBelow}
use Rattle.ur_cacheindex.proofs.Listing.{some_same}
use Rattle.ur_cacheindex.proofs.Linking.{slot_in}
use Rattle.ur_cacheindex.proofs.Hooking.{same_node, can_hook_next, hooked_more, linked_with, all_links}
use Rattle.ur_cacheindex.proofs.Filling.{filled_end}
use Rattle.ur_cacheindex.proofs.lists.hook_each.Goals as goal

pub hook-requires : goal.hook-requires
hook-requires c =
    let count = some_same c.count_slots-slot-end.result (slots_of c.requires.node) (sym c.count_slots-slot-end.ensures ∙ all_links c.args.heads.now (look_at c.args.nodes.now) c.args.number c.requires) in
    can_hook_next c.loop-slot.slot c.args.heads.now c.loop-slot.heads (look_at c.args.nodes.now) (look_at c.loop-slot.nodes) c.args.number c.requires
    (slot_in c.loop-slot.slot c.count_slots-slot-end.result (slots_of c.requires.node) (let t = c.loop-slot-test.true in omega arith) count)
    (c.loop-slot.invariant.0 c.requires.node c.requires.stands_there) c.loop-slot.invariant.1 c.loop-slot.invariant.2

pub loop-slot-preserved : goal.loop-slot-preserved
loop-slot-preserved c =
    let inv = c.loop-slot.invariant in (
      λ node has. hooked_more c.loop-slot.slot node c.args.number c.args.heads.now c.loop-slot.heads c.hook.new.heads (look_at c.args.nodes.now) (look_at c.loop-slot.nodes) (look_at c.hook.new.nodes)
          (inv.0 node has) (c.hook.ensures.lists node ((inv.1 c.args.number).0 ∙ has)),
      λ m. ((c.hook.ensures.alike m).0 ∙ (inv.1 m).0, (c.hook.ensures.alike m).1 ∙ (inv.1 m).1),
      λ s k a h. c.hook.ensures.kept s k a (inv.2 s k a h),
      λ node has but. c.hook.ensures.filled node ((inv.1 c.args.number).0 ∙ has) (inv.3 node has but),
    )

pub returns-clause-linked : goal.returns-clause-linked
returns-clause-linked c =
    let count = some_same c.count_slots-slot-end.result (slots_of c.requires.node) (sym c.count_slots-slot-end.ensures ∙ all_links c.args.heads.now (look_at c.args.nodes.now) c.args.number c.requires) in
    let all : c.loop-slot.slot ≡ slots_of c.requires.node = let t = c.loop-slot-test.false in let u = c.loop-slot.auto.slot-end in omega (arith, count) in
    linked_with c.args.heads.now c.loop-slot.heads (look_at c.args.nodes.now) (look_at c.loop-slot.nodes) c.args.number c.requires
    (subst (λ v. HooksBelow v c.requires.node c.args.number c.args.heads.now (look_at c.args.nodes.now) c.loop-slot.heads (look_at c.loop-slot.nodes)) all
    (c.loop-slot.invariant.0 c.requires.node c.requires.stands_there)) c.loop-slot.invariant.1

pub returns-clause-filled : goal.returns-clause-filled
returns-clause-filled c = λ node has but.
    let count = some_same c.count_slots-slot-end.result (slots_of c.requires.node) (sym c.count_slots-slot-end.ensures ∙ all_links c.args.heads.now (look_at c.args.nodes.now) c.args.number c.requires) in
    let all : c.loop-slot.slot ≡ slots_of c.requires.node = let t = c.loop-slot-test.false in let u = c.loop-slot.auto.slot-end in omega (arith, count) in
    let same = ap slots_of (same_node (look_at c.args.nodes.now) c.args.number c.requires.node node c.requires.stands_there has) in
    filled_end c.loop-slot.slot node c.loop-slot.heads (omega (arith, all, same)) (c.loop-slot.invariant.3 node has but)
