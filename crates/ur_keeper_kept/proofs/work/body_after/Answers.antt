use Rattle.std.proofs.Common.{◌++◌, ◌∷◌, ◌≤◌, [], length, take, ap, sym, ◌∙◌, w64, arith}
use Rattle.std.specs.Int.{cast_signed as to_z, cast_unsigned as of_z}
use Rattle.std.proofs.lemmas.Int.{to_z-of_z}
use Rattle.std.proofs.lemmas.List.{take_more, take_all}
use Rattle.ur_keeper_bodies.specs.Bodies.{BodyMap, body_at, written}
use Rattle.ur_keeper_kept.proofs.Steps.{written-push}
use Rattle.ur_keeper_kept.proofs.work.body_after.Goals as goal

pub loop-change-preserved : goal.loop-change-preserved
loop-change-preserved c =
    let all = c.args.changes.now in
    let i = c.loop-change.change-index in
    let more = take_more all i c.change-item.result c.loop-change-test.true ∙ ap (λ x. take i all ++ x ∷ []) (sym c.change-item.is) in
    λ m e.
    c.in_ok-change_body.ensures (written m (take i all)) (c.loop-change.invariant m e)
    ∙ ap (λ (x : BodyMap). body_at x (to_z w64 (of_z w64 c.args.tab)) (to_z w64 (of_z w64 c.args.num))) (sym (ap (written m) more ∙ written-push m (take i all) c.change-item.result))

pub returns : goal.returns
returns c =
    let past : length c.args.changes.now ≤ c.loop-change.change-index = omega (arith, c.loop-change-test.false) in
    let t = to_z-of_z w64 c.args.tab c.ranges.tab in
    let n = to_z-of_z w64 c.args.num c.ranges.num in
    let whole = take_all c.loop-change.change-index c.args.changes.now past in
    λ m e. c.loop-change.invariant m (e ∙ (λ i. body_at m (sym t i) (sym n i))) ∙ (λ i. body_at (written m (whole i)) (t i) (n i))
