use Rattle.std.proofs.Common.{refl, arith}
use Rattle.ur_keeper.proofs.Rising.{between-first, goes-up, goes-down}
use Rattle.ur_keeper.proofs.draft.find.Goals as goal

pub loop-low-init : goal.loop-low-init
loop-low-init c = between-first c.args.rows.now c.args.rows.now c.args.number refl c.requires.there

pub loop-low-preserved-then-there-number-2 : goal.loop-low-preserved-then-there-number-2
loop-low-preserved-then-there-number-2 c =
    let k = c.loop-low.invariant.1 in (
      c.loop-low.invariant.0,
      (k.0, goes-up c.args.rows.now c.args.rows.now refl c.requires.rising _ k.0 c.args.number _ (omega arith) c.if-there-number-2.true k.3, k.2, k.3),
    )

pub loop-low-preserved : goal.loop-low-preserved
loop-low-preserved c =
    let k = c.loop-low.invariant.1 in (
      omega arith,
      (k.0, k.1, goes-down c.args.rows.now c.args.rows.now refl c.requires.rising _ k.0 c.args.number _ (omega arith) (omega arith) c.if-there-number-2.false c.if-there-number.false k.3, k.3),
    )
