use Rattle.ur_unfold_static.proofs.Laws.{grows_so}
use Rattle.ur_unfold_static.proofs.Viewed.{node_is, put_sound, put_grows, put_number}
use Rattle.ur_unfold_static.proofs.closing.Closing.add_node.Goals as goal

pub invariant_of-self : goal.invariant_of-self
invariant_of-self c = put_sound c.self.inside.cons c.self.inside.lambdas c.self.inside.nodes.keys c.args.self.now c.self.view_is c.self.invariant c.args.node c.push_node.new.nodes.keys c.in-None.ensures c.requires c.push_node.ensures.few c.push_node.result c.push_node.ensures.ok c.push_node.ensures.err

pub returns-in-Some-clause-number : goal.returns-in-Some-clause-number
returns-in-Some-clause-number c = (node_is c.self.inside.cons c.self.inside.lambdas c.self.inside.nodes.keys c.args.self.now c.self.view_is c.self.invariant c.in-Some.number c.args.node c.in-Some.ensures).1

pub returns-in-Some-clause-grows : goal.returns-in-Some-clause-grows
returns-in-Some-clause-grows c = grows_so c.args.self.now

pub returns-in-None-clause-number : goal.returns-in-None-clause-number
returns-in-None-clause-number c = put_number c.self.inside.cons c.self.inside.lambdas c.self.inside.nodes.keys c.args.self.now c.self.view_is c.self.invariant c.args.node c.push_node.new.nodes.keys c.in-None.ensures c.requires c.push_node.ensures.few c.push_node.result c.push_node.ensures.ok c.push_node.ensures.number

pub returns-in-None-clause-grows : goal.returns-in-None-clause-grows
returns-in-None-clause-grows c = put_grows c.self.inside.cons c.self.inside.lambdas c.self.inside.nodes.keys c.args.self.now c.self.view_is c.self.invariant c.args.node c.push_node.new.nodes.keys c.in-None.ensures c.requires c.push_node.ensures.few c.push_node.result c.push_node.ensures.ok c.push_node.ensures.err
