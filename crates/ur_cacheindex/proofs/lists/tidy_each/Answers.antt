use Rattle.std.proofs.Common.{◌≤◌, length, ap, ◌∙◌, arith}
use Rattle.ur_cacheindex.specs.Lists.{slots_of}
use Rattle.ur_cacheindex.proofs.Filling.{but_tidied, filled_end}
use Rattle.ur_cacheindex.proofs.lists.tidy_each.Goals as goal

pub loop-slot-preserved : goal.loop-slot-preserved
loop-slot-preserved c =
    let inv = c.loop-slot.invariant in (
      λ s k a. c.tidy.ensures.same s k a ∙ inv.0 s k a,
      inv.1,
      λ but. but_tidied c.loop-slot.slot c.args.node.now c.atom_in.result.now c.loop-slot.heads c.tidy.new.self c.atom_in.ensures c.tidy.ensures.gone (inv.2 but),
    )

pub returns-clause-filled : goal.returns-clause-filled
returns-clause-filled c = λ but.
    let all : slots_of c.args.node.now ≤ c.loop-slot.slot = let t = c.loop-slot-test.false in let e = ap length c.as_slice.ensures in omega (arith, t, e) in
    filled_end c.loop-slot.slot c.args.node.now c.loop-slot.heads all (c.loop-slot.invariant.2 but)
