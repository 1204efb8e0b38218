use Rattle.ur_source.proofs.Keeping.{keeps}
use Rattle.ur_unfold.proofs.Assembled.{closed_is}
use Rattle.ur_unfold.proofs.unfolding.unfold.Goals as goal

pub returns-clause-instances : goal.returns-clause-instances
returns-clause-instances c =
    closed_is c.args.typed c.in_ok-made.made c.closed_of.result c.in_ok-made.ensures.made c.closed_of.ensures.schema c.closed_of.ensures.handlers c.closed_of.ensures.names c.closed_of.ensures.cookies c.closed_of.ensures.queries c.closed_of.ensures.changes
    c.closed_of.ensures.targets c.closed_of.ensures.variants c.closed_of.ensures.functions

pub returns-clause-meaning : goal.returns-clause-meaning
returns-clause-meaning c =
    let is =
    closed_is c.args.typed c.in_ok-made.made c.closed_of.result c.in_ok-made.ensures.made c.closed_of.ensures.schema c.closed_of.ensures.handlers c.closed_of.ensures.names c.closed_of.ensures.cookies c.closed_of.ensures.queries c.closed_of.ensures.changes
    c.closed_of.ensures.targets c.closed_of.ensures.variants c.closed_of.ensures.functions in
    keeps c.args.typed c.closed_of.result is.0 is.1
