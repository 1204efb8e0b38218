use Rattle.ur_check_walk.proofs.Lambdas.{arrows-past, arrows-done}
use Rattle.ur_check_walk.proofs.bound.arrows.Goals as goal

pub loop-last-preserved : goal.loop-last-preserved
loop-last-preserved c =
    arrows-past c.args.locals.now c.loop-last.left.now c.in-Some.rest.now c.in-Some.last.now c.loop-last.of c.in_ok-made.made c.args.last_of c.in-Some.ensures.cases.0 c.in_ok-made.ensures c.loop-last.invariant

pub returns : goal.returns
returns c = arrows-done c.args.locals.now c.loop-last.left.now c.loop-last.of c.args.last_of c.in_default.ensures.cases c.loop-last.invariant
