use Rattle.ur_invalidate.proofs.Stages.{sides_stand}
use Rattle.ur_invalidate.proofs.numbering.Numbering.sides.Goals as goal

pub returns : goal.returns
returns c = sides_stand c.args.self.now c.number.new.self c.number-2.new.self c.args.sides.now c.in_ok-left.left.number c.in_ok-right.right.number c.in_ok-left.ensures c.in_ok-right.ensures
