use Rattle.ur_unfold_static.proofs.Viewed.{cons_once, all_statics_once}
use Rattle.ur_unfold_static.proofs.closing.Closing.each_once.Goals as goal

pub returns-clause-cons : goal.returns-clause-cons
returns-clause-cons c = cons_once c.self.inside.cons c.self.inside.lambdas c.self.inside.nodes.keys c.args.self.now c.self.view_is c.self.invariant

pub returns-clause-statics : goal.returns-clause-statics
returns-clause-statics c = all_statics_once c.self.inside.cons c.self.inside.lambdas c.self.inside.nodes.keys c.args.self.now c.self.view_is c.self.invariant
