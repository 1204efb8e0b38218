use Rattle.ur_unfold_static.proofs.Viewed.{lambda_sound, lambda_grows}
use Rattle.ur_unfold_static.proofs.closing.Closing.add_lambda.Goals as goal

pub invariant_of-self : goal.invariant_of-self
invariant_of-self c = lambda_sound c.self.inside.cons c.self.inside.lambdas c.self.inside.nodes.keys c.args.self.now c.self.view_is c.self.invariant c.add_lambda.new.lambdas c.add_lambda.ensures.grows c.add_lambda.ensures.once c.add_lambda.ensures.few

pub returns-clause-grows : goal.returns-clause-grows
returns-clause-grows c = lambda_grows c.self.inside.cons c.self.inside.lambdas c.self.inside.nodes.keys c.args.self.now c.self.view_is c.self.invariant c.add_lambda.new.lambdas c.add_lambda.ensures.grows
