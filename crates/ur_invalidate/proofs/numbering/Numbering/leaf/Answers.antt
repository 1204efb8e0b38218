use Rattle.std.proofs.lemmas.Result.{IfOk-weaker}
use Rattle.ur_invalidate.proofs.Adds.{plain_leaf_adds}
use Rattle.ur_invalidate.proofs.numbering.Numbering.leaf.Goals as goal

pub returns : goal.returns
returns c = IfOk-weaker c.place.result _ _ (λ number is a same none. plain_leaf_adds c.args.self.now c.place.new.self c.args.leaf number.number is a same none) c.place.ensures
