use Rattle.ur_unfold_pieces.proofs.Rooting.{roots_fit, roots_are}
use Rattle.ur_unfold_pieces.proofs.opening.Opening.new.Goals as goal

pub returns-clause-whole : goal.returns-clause-whole
returns-clause-whole c = record {
  keys = roots_fit c.closed_vals.new.closing c.args.typed.now.functions c.in_ok-instances.instances.keys c.in_ok-instances.ensures;
  once = c.in_ok-instances.ensures.different;
  vals = c.in_ok-vals.ensures.vals;
}

pub returns-clause-roots : goal.returns-clause-roots
returns-clause-roots c = roots_are c.args.typed.now c.closed_vals.new.closing c.in_ok-instances.instances.keys c.in_ok-instances.ensures
