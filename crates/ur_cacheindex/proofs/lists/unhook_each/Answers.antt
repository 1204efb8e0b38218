use Rattle.std.proofs.Common.{◌≡◌, length, subst, ◌∙◌, arith}
use Rattle.ur_cacheindex.specs.Lists.{slots_of}
use Rattle.ur_cacheindex.specs.Linked.{look_at, beside, UnhooksBelow}
use Rattle.ur_cacheindex.proofs.Linking.{held_here, still_hooked, unhooked_more, goes_from_all, slot_in}
use Rattle.ur_cacheindex.proofs.lists.unhook_each.Goals as goal

pub unhook-requires-clause-slots : goal.unhook-requires-clause-slots
unhook-requires-clause-slots c = c.requires.linked.shaped c.args.number c.args.held.now (held_here (look_at c.args.nodes.now) c.args.number c.args.held.now)

pub unhook-requires-clause-slot : goal.unhook-requires-clause-slot
unhook-requires-clause-slot c =
    slot_in c.loop-slot.slot (length c.args.held.now.links) (slots_of c.args.held.now.node) (let t = c.loop-slot-test.true in omega arith)
    (c.requires.linked.shaped c.args.number c.args.held.now (held_here (look_at c.args.nodes.now) c.args.number c.args.held.now))

pub unhook-requires-clause-hooked : goal.unhook-requires-clause-hooked
unhook-requires-clause-hooked c =
    let n = c.args.number in
    let held = c.args.held.now in
    still_hooked c.args.heads.now c.loop-slot.heads (look_at c.args.nodes.now) (beside (look_at c.loop-slot.nodes) n held) n held c.loop-slot.slot c.requires.linked
    (slot_in c.loop-slot.slot (length held.links) (length held.links) (let t = c.loop-slot-test.true in omega arith) (λ i. length held.links)) c.loop-slot.invariant.0

pub loop-slot-preserved : goal.loop-slot-preserved
loop-slot-preserved c =
    let n = c.args.number in
    let held = c.args.held.now in
    let inv = c.loop-slot.invariant in (
      unhooked_more c.loop-slot.slot held.node n c.args.heads.now c.loop-slot.heads c.unhook.new.heads (beside (look_at c.args.nodes.now) n held) (beside (look_at c.loop-slot.nodes) n held)
          (beside (look_at c.unhook.new.nodes) n held) inv.0 c.unhook.ensures.lists,
      λ m. ((c.unhook.ensures.alike m).0 ∙ (inv.1 m).0, (c.unhook.ensures.alike m).1 ∙ (inv.1 m).1),
      let s = c.unhook.ensures.steps in let b = inv.2 in omega (arith, s, b),
      λ filled. c.unhook.ensures.filled (inv.3 filled),
    )

pub returns-clause-lists : goal.returns-clause-lists
returns-clause-lists c =
    let n = c.args.number in
    let held = c.args.held.now in
    let all : c.loop-slot.slot ≡ length held.links = let t = c.loop-slot-test.false in let u = c.loop-slot.auto.slot-end in omega arith in
    goes_from_all c.args.heads.now c.loop-slot.heads (look_at c.args.nodes.now) (look_at c.loop-slot.nodes) n held c.requires.linked
    (subst (λ v. UnhooksBelow v held.node n c.args.heads.now (beside (look_at c.args.nodes.now) n held) c.loop-slot.heads (beside (look_at c.loop-slot.nodes) n held)) all c.loop-slot.invariant.0)

pub returns-clause-steps : goal.returns-clause-steps
returns-clause-steps c =
    let all : c.loop-slot.slot ≡ length c.args.held.now.links = let t = c.loop-slot-test.false in let u = c.loop-slot.auto.slot-end in omega arith in
    let shaped = c.requires.linked.shaped c.args.number c.args.held.now (held_here (look_at c.args.nodes.now) c.args.number c.args.held.now) in
    let b = c.loop-slot.invariant.2 in
    omega (arith, all, shaped, b)

pub returns-clause-filled : goal.returns-clause-filled
returns-clause-filled c = c.loop-slot.invariant.3
