use Rattle.std.proofs.Common.{refl, ◌+◌}
use Rattle.std.proofs.lemmas.List.{take_rest}
use Rattle.ur_http.proofs.Pairs.{last_step, piece_step}
use Rattle.ur_http.proofs.cookies.add_pairs.Goals as goal

pub loop-end-preserved : goal.loop-end-preserved
loop-end-preserved c =
    piece_step c.loop-end.cookies _ _ c.loop-end.left.now _ _ c.in-Some.end c.in-Some.ensures.place.0 c.in-Some.ensures.place.1 c.in_ok-add_pair.ensures c.loop-end.invariant
    refl (take_rest c.loop-end.left.now (c.in-Some.end + 1))

pub returns : goal.returns
returns c = last_step c.loop-end.cookies _ _ c.loop-end.left.now c.in_default.ensures.place c.in_ok-add_pair-2.ensures c.loop-end.invariant
