use Rattle.ur_unfold_static.proofs.Viewed.{empty_is}
use Rattle.ur_unfold_static.proofs.closing.Closing.empty_number.Goals as goal

pub returns : goal.returns
returns c = empty_is c.self.inside.cons c.self.inside.lambdas c.self.inside.nodes.keys c.args.self.now c.self.view_is c.self.invariant
