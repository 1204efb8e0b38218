use Rattle.std.proofs.Common.{arith, ◌≡◌, ◌<◌, ◌≤◌, [], drop, length, get_or, sym, ap, ◌∙◌}
use Rattle.std.proofs.lemmas.Grind.{common_steps}
use Rattle.std.proofs.lemmas.List.{take_rest}
use Rattle.ur_io.specs.Memory.{piece_from, place_of}
use Rattle.ur_io.proofs.Inputs.{piece_here, piece_none}
use Rattle.ur_io.proofs.memory.input.next_piece.Goals as goal

pub returns-then-at-len-clause-left : goal.returns-then-at-len-clause-left
returns-then-at-len-clause-left c =
    let here : get_or c.args.pieces.now c.loop-bytes.piece [] ≡ c.as_slice.result.now = grind (arith, common_steps) in
    let some : c.loop-bytes.at < length (get_or c.args.pieces.now c.loop-bytes.piece []) = omega (arith, ap length here, ap length c.as_slice.ensures) in
    take_rest c.as_slice.result.now c.loop-bytes.at ∙ ap (drop c.loop-bytes.at) (sym here) ∙
    sym (piece_here c.args.pieces.now c.loop-bytes.piece c.loop-bytes.at some) ∙
    ap (λ place. piece_from place c.args.pieces.now) c.loop-bytes.invariant.place

pub returns-clause-left : goal.returns-clause-left
returns-clause-left c =
    let past : length c.args.pieces.now ≤ c.loop-bytes.piece = grind (arith, common_steps) in
    let same : place_of c.args.pieces.now c.loop-bytes.piece 0 ≡ place_of c.args.pieces.now c.args.piece c.args.at = grind (arith, common_steps) in
    sym (piece_none c.args.pieces.now c.loop-bytes.piece past) ∙ ap (λ place. piece_from place c.args.pieces.now) same
