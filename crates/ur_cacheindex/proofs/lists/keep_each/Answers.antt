use Rattle.std.proofs.Common.{◌<◌, length, ap, arith}
use Rattle.ur_cacheindex.specs.Lists.{head_at, slots_of}
use Rattle.ur_cacheindex.proofs.Listing.{keep_more}
use Rattle.ur_cacheindex.proofs.Filling.{but_kept, but_same, filled_start}
use Rattle.ur_cacheindex.proofs.lists.keep_each.Goals as goal

pub loop-slot-preserved : goal.loop-slot-preserved
loop-slot-preserved c =
    let node = c.args.node.now in
    let slot = c.loop-slot.slot in
    let now = c.loop-slot.heads in
    let at = c.atom_in.result.now in
    let inv = c.loop-slot.invariant in
    let within : slot < slots_of node = let t = c.loop-slot-test.true in let e = ap length c.as_slice.ensures in omega (arith, t, e) in
    let more = keep_more node slot c.args.heads.now now c.keep.new.self at c.atom_in.ensures c.in_ok-keep.ensures.ok inv.0 inv.1 in
    (more.0, more.1, inv.2, λ but. but_kept slot node at (head_at now node.site slot at) now c.keep.new.self c.atom_in.ensures within c.in_ok-keep.ensures.ok (inv.3 but))

pub returns-in_err-keep-clause-filled : goal.returns-in_err-keep-clause-filled
returns-in_err-keep-clause-filled c = λ filled.
    but_same 0 c.args.node.now c.loop-slot.heads c.keep.new.self c.in_err-keep.ensures.err (c.loop-slot.invariant.3 (filled_start c.args.node.now c.args.heads.now filled))

pub returns-clause-filled : goal.returns-clause-filled
returns-clause-filled c = λ filled. c.loop-slot.invariant.3 (filled_start c.args.node.now c.args.heads.now filled)
