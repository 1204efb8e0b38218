use Rattle.ur_kinds.specs.KindedFaults.{start}
use Rattle.ur_kinds.proofs.Searching.{leads-start, leads-next, leads-end, first-here, refused-exit}
use Rattle.ur_kinds.proofs.search.find.Goals as goal

pub loop-i-init : goal.loop-i-init
loop-i-init c = leads-start start c.start-state.result c.args.events.now c.start-state.ensures

pub loop-i-preserved : goal.loop-i-preserved
loop-i-preserved c = leads-next c.args.events.now c.loop-i.i c.index-events-i.result c.loop-i-test.true c.index-events-i.is c.loop-i.invariant c.in_ok-check.ensures.kinded c.in_ok-step.ensures

pub returns-clause-kinded : goal.returns-clause-kinded
returns-clause-kinded c = leads-end c.args.events.now c.loop-i.i c.loop-i-test.false c.loop-i.auto.i-end c.loop-i.invariant

pub returns-in_err-check-clause-refused : goal.returns-in_err-check-clause-refused
returns-in_err-check-clause-refused c = refused-exit c.from_residual.result c.in_err-check.field-0.0 c.from_residual.ensures.1
    (first-here c.args.events.now c.loop-i.i c.index-events-i.result c.loop-i-test.true c.index-events-i.is c.loop-i.invariant) c.in_err-check.ensures.refused
