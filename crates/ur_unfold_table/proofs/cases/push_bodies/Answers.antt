use Rattle.std.proofs.Common.{[], ◌∷◌, ◌++◌, map, ap, ◌∙◌}
use Rattle.ur_tree.specs.declared.exp.Branch.{Branch}
use Rattle.ur_unfold_pieces.specs.Told.{told, exp}
use Rattle.ur_unfold_table.proofs.Telling.{told_last, first_told, more_told, all_told}
use Rattle.ur_unfold_table.proofs.cases.push_bodies.Goals as goal

pub loop-i-init : goal.loop-i-init
loop-i-init c = first_told (λ (b : Branch). exp c.args.scope b.body) (map told c.args.parts.now) c.as_slice-all.result.now

pub loop-i-preserved : goal.loop-i-preserved
loop-i-preserved c =
    more_told (λ (b : Branch). exp c.args.scope b.body) c.as_slice-all.result.now c.loop-i.i c.index-all-i.result (map told c.loop-i.parts) (map told c.push.new.self) _ c.loop-i-test.true c.index-all-i.is c.loop-i.invariant
    (told_last c.loop-i.parts c.push.new.self c.body_piece.result c.in_ok-push.ensures.ok ∙ ap (λ t. map told c.loop-i.parts ++ t ∷ []) c.body_piece.ensures)

pub returns : goal.returns
returns c =
    all_told (λ (b : Branch). exp c.args.scope b.body) c.as_slice-all.result.now c.loop-i.i (map told c.loop-i.parts) _ c.loop-i-test.false c.loop-i.invariant
    ∙ ap (λ l. map told c.args.parts.now ++ map (λ (b : Branch). exp c.args.scope b.body) l) c.as_slice-all.ensures
