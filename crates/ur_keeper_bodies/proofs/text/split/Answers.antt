use Rattle.std.proofs.Common.{◌++◌, ◌∙◌}
use Rattle.ur_keeper_bodies.specs.Pieces.{grown, pieces}
use Rattle.ur_keeper_bodies.proofs.Splitting.{grown-nothing}
use Rattle.ur_keeper_bodies.proofs.text.split.Goals as goal

pub loop-byte-init : goal.loop-byte-init
loop-byte-init c = (λ i. c.new-done.ensures i ++ grown (c.new-piece.ensures i) (pieces c.args.mark c.args.bytes.now)) ∙ grown-nothing c.args.mark c.args.bytes.now
