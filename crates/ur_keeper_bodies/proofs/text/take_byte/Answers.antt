use Rattle.std.proofs.Common.{◌≡◌, ◌++◌, ◌∷◌, [], ◌∙◌, true, ◌==◌, arith}
use Rattle.std.proofs.lemmas.Bool.Decides.{nat_tests}
use Rattle.ur_keeper_bodies.specs.Pieces.{grown, pieces}
use Rattle.ur_keeper_bodies.proofs.Splitting.{ended}
use Rattle.ur_keeper_bodies.proofs.text.take_byte.Goals as goal

pub returns-then-byte-mark : goal.returns-then-byte-mark
returns-then-byte-mark c =
    let same : (c.args.byte == c.args.mark) ≡ true = grind (arith, nat_tests) in
    λ rest.
    (λ i. c.in_ok-push.ensures.ok i ++ grown (c.replace-whole.ensures.after i) (pieces c.args.mark rest))
    ∙ (λ i. (c.args.done.now ++ c.replace-whole.ensures.value i ∷ []) ++ grown (c.new.ensures i) (pieces c.args.mark rest))
    ∙ ended c.args.mark c.args.byte c.args.done.now c.args.piece.now rest same
