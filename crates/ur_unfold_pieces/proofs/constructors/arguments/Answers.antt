use Rattle.std.proofs.Common.{◌≡◌, true, List, sym, subst}
use Rattle.ur_rows.specs.declared.normal.Normal.{Normal}
use Rattle.ur_rows_normal.specs.Arguments.{are_normal}
use Rattle.ur_unfold_static.specs.Held.{con_at}
use Rattle.ur_unfold_pieces.proofs.Values.{map_more}
use Rattle.ur_unfold_pieces.proofs.Labels.{one_more}
use Rattle.ur_unfold_pieces.proofs.constructors.arguments.Goals as goal

pub loop-i-preserved : goal.loop-i-preserved
loop-i-preserved c = (
  map_more (con_at c.args.closing.now.cons) c.as_slice-numbers.result.now c.loop-i.i _ c.in_ok-con.con c.loop-i.args c.push.new.self c.loop-i-test.true c.in_ok-con.ensures.of c.loop-i.invariant.0 c.in_ok-push.ensures.ok,
  subst (λ (l : List Normal). are_normal l ≡ true) (sym c.in_ok-push.ensures.ok) (one_more c.loop-i.args c.in_ok-con.con c.loop-i.invariant.1 c.in_ok-con.ensures.in_order),
)
