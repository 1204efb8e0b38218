use Rattle.std.proofs.Common.{[], ◌∷◌, ◌++◌, map, ap, ◌∙◌}
use Rattle.ur_unfold_static.specs.declared.node.Field.{Field}
use Rattle.ur_unfold_pieces.specs.Told.{told, closed}
use Rattle.ur_unfold_table.proofs.Placing.{told_at}
use Rattle.ur_unfold_table.proofs.Telling.{told_last, first_told, all_told}
use Rattle.ur_unfold_table.proofs.closed.push_closed.Goals as goal

pub loop-i-init : goal.loop-i-init
loop-i-init c = first_told (λ (f : Field). closed f.of) (map told c.args.parts.now) c.as_slice-all.result.now

pub loop-i-preserved : goal.loop-i-preserved
loop-i-preserved c =
    told_at (λ (f : Field). closed f.of) c.as_slice-all.result.now c.loop-i.i _ (map told c.loop-i.parts) (map told c.push.new.self) _ c.loop-i-test.true c.loop-i.invariant
    (told_last c.loop-i.parts c.push.new.self c.closed_piece.result c.in_ok-push.ensures.ok ∙ ap (λ t. map told c.loop-i.parts ++ t ∷ []) c.closed_piece.ensures)

pub returns : goal.returns
returns c =
    all_told (λ (f : Field). closed f.of) c.as_slice-all.result.now c.loop-i.i (map told c.loop-i.parts) _ c.loop-i-test.false c.loop-i.invariant
    ∙ ap (λ l. map told c.args.parts.now ++ map (λ (f : Field). closed f.of) l) c.as_slice-all.ensures
