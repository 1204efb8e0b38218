use Rattle.ur_unfold_static.proofs.Laws.{grows_so}
use Rattle.ur_unfold_static.proofs.Viewed.{con_sound, con_grows}
use Rattle.ur_unfold_static.proofs.closing.Closing.add_con.Goals as goal

pub returns-in_err-con-clause-grows : goal.returns-in_err-con-clause-grows
returns-in_err-con-clause-grows c = grows_so c.args.self.now

pub invariant_of-self : goal.invariant_of-self
invariant_of-self c = con_sound c.self.inside.cons c.self.inside.lambdas c.self.inside.nodes.keys c.args.self.now c.self.view_is c.self.invariant c.add_con.new.cons c.add_con.ensures.grows c.add_con.ensures.once c.add_con.ensures.few

pub returns-clause-grows : goal.returns-clause-grows
returns-clause-grows c = con_grows c.self.inside.cons c.self.inside.lambdas c.self.inside.nodes.keys c.args.self.now c.self.view_is c.self.invariant c.add_con.new.cons c.add_con.ensures.grows
